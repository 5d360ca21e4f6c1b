-- What the writer's parts are stated by.
pub mod Parts

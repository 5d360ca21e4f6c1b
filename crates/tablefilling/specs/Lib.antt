-- The lists between a file and its tables.
pub mod Parts

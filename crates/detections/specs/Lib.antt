-- What a detecting node sees.
pub mod Detection

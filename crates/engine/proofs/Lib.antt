-- Laws of the tables' stages.
pub mod One
pub mod Whole

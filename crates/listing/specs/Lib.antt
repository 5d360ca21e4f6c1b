-- The fields of a file as lists.
pub mod Fields

-- The records of a file, and their fields.
pub mod Fields
pub mod Held
pub mod Records

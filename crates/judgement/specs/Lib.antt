-- The records of a file in turn.
pub mod Turns

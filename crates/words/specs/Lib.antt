-- A set of nodes as a word.
pub mod Word

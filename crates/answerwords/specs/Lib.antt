-- Answers as words.
pub mod Words

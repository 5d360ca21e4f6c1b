-- What the builder answers (`Answers`).
pub mod Answers

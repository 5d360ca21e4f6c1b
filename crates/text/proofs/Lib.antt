-- The text that a pen wrote.
pub mod Texts

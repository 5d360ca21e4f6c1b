-- The report: each line is what the run does, the lines cover every detection, how long the text is, and what is shown of the extra hops.
pub mod Lines
pub mod Coverage
pub mod TextLength
pub mod Extras

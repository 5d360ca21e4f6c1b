-- The entries: from a promise to what is returned, and demand 1 of any entry; of each what it accepts and gives; of all eight what they leave and answer.
pub mod Answering
pub mod Determined
pub mod Read
pub mod Write
pub mod Build
pub mod Tables
pub mod Step
pub mod Run
pub mod Report
pub mod LengthsKept
pub mod Values

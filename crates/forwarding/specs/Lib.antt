-- The two entries on packets.
pub mod Steps
pub mod Runs

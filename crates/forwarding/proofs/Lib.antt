pub mod Stepping
pub mod Running

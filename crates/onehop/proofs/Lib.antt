-- One hop, as the code has it.
pub mod Hops

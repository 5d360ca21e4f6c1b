-- The twelve examples that 01 marks P, computed from the definitions.
pub mod Examples

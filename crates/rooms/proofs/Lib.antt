-- The lengths of the rooms in figures, for the proofs that reckon with them.
pub mod Longest

-- Laws that the functions' proofs, and those of the crates above, cite.
pub mod Stored
pub mod Written

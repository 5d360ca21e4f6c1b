-- Laws that the functions' proofs cite.
pub mod Weights
pub mod Orders

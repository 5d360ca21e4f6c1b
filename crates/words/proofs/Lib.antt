-- Who is in a word (`Members`), how many and the lowest (`Tally`), and what the functions' proofs cite (`Laws`).
pub mod Members
pub mod Tally
pub mod Laws

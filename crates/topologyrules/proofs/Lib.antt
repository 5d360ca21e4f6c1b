-- The words reached (`Reached`), that the words' rules are 01's (`Same`), and what the functions' proofs cite (`Laws`).
pub mod Reached
pub mod Same
pub mod Laws

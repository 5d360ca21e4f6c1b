-- The rules of a topology as they run, over words. proofs/ has the laws that they are 01's.
pub mod Entered
pub mod Topology

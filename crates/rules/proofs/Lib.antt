-- Laws of the definitions, and the theorems, by theme; `Demands` has each demand with its theorem.
pub mod Ground
pub mod File
pub mod Isolation
pub mod Distance
pub mod Forwarding
pub mod Building
pub mod Report
pub mod Entries
pub mod Refusals
pub mod Demands

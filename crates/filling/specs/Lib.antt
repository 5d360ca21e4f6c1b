-- The bytes of a set that is filled from a graph and homes.
pub mod Filled

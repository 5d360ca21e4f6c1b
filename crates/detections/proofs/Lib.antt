-- The hops of a detection counted along one topology, and what the code sees.
pub mod Walks
pub mod Seens

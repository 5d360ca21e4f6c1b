-- Distances are least totals, next hops lie on least paths, alternates are the nearest; and no least path passes an isolated node.
pub mod Rounds
pub mod Distances
pub mod Reach
pub mod Transit
pub mod NextHops

-- Links, homes and the rules of a backup topology: the tests for 7 and 8 are the rules, and what the rules say of the graph.
pub mod HomesAndRows
pub mod Links
pub mod Homes
pub mod Walks
pub mod Spreading
pub mod Connected
pub mod Sound
pub mod Degree
pub mod Removal

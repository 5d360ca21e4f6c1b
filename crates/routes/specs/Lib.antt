-- The costs of a topology's links, and its distances by passes through the nodes, as the code runs.
pub mod Lanes
pub mod Passes
pub mod Costs
pub mod Listed

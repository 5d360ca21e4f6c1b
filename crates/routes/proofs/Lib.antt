-- Laws of rows and entries, of the passes, and that the distances they leave are the published ones.
pub mod Lanes
pub mod Passes
pub mod Steps
pub mod Filling
pub mod Costs
pub mod Exact
pub mod ListedSets

-- Laws of alternates, and that they are the published ones.
pub mod Neighbours
pub mod Detours

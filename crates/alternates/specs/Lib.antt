-- Alternates by flags of neighbours, as the code runs.
pub mod Alternates

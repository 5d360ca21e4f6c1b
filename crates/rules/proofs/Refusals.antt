-- Refusal numbers: what each needed test asks, the order of 7 and 8, that what a number and its place say is so, and that broken topologies are refused.
pub mod Needs
pub mod SevenBeforeEight
pub mod Refusing
pub mod Broken
pub mod Numbered

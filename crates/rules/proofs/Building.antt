-- First fit: when it succeeds, that what it gives is accepted and is what 01's builder makes, and the builder's refusals.
pub mod FirstFit
pub mod BuiltAccepted
pub mod BuiltBy
pub mod BuildNumber

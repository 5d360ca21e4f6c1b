-- First fit as it runs, over words. proofs/ has the laws that it is 01's.
pub mod Fit

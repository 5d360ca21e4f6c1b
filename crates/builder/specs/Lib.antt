-- What the builder answers as it runs. proofs/ has the laws that it is 01's.
pub mod Answer

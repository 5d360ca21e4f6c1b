-- What the proofs of first fit cite (`Placing`) and that it is 01's (`Fitted`).
pub mod Placing
pub mod Fitted

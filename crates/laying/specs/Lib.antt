-- What is laid, by the lists that it is laid from.
pub mod Parts

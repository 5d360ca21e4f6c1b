-- The file: what stands where in its bytes, when bytes are accepted, and that writing and reading undo each other.
pub mod Encoded
pub mod SetOfBytes
pub mod LaidOut
pub mod Records
pub mod WithinCounts
pub mod EncodesItsSet
pub mod Accepted
pub mod TakenIn
pub mod FileOf
pub mod AcceptedFile
pub mod RoundTrip

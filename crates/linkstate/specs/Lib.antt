-- Which link joins two nodes and what is up, as the code reads it: from a file's bytes.
pub mod Links

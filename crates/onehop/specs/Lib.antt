-- The forwarding rule as the code reads it: from a file's bytes and tables that are lent.
pub mod Hop

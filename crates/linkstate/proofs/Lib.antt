-- Which link joins two nodes, a node's home and what is up, read off a file's bytes.
pub mod Graph
pub mod Homes

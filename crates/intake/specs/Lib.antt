-- The words that are gathered from a file's bytes, and the topologies in turn. proofs/ has the laws that they are those of its set.
pub mod Graph

-- That the words gathered are those of the set that a file holds (`Graph`), and what the functions' proofs cite (`Files`).
pub mod Graph
pub mod Files

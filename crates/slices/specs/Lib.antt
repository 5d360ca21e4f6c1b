-- What a store leaves.
pub mod Stores

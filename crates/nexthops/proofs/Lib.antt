-- Laws of tie words, and that the next hops are the published ones.
pub mod Ties
pub mod Lowest
pub mod NextHops

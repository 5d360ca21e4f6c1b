-- Next hops by words of tying neighbours, as the code runs.
pub mod Ties

-- Laws of the words that are not 01's: tests in order, numbers below n, differences of counts, lists by index, and square tables as bytes.
pub mod Choices
pub mod Numbers
pub mod Integers
pub mod Sizes
pub mod Rows
pub mod Square
pub mod Ruling

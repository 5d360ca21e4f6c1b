-- The extra hops of a line, and the text put together.
pub mod Extras
pub mod Wholes

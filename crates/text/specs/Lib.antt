-- Bytes written into a text, and the pen that writes them.
pub mod Text
pub mod Pen

-- The rules of each record over the values of its fields.
pub mod Rules

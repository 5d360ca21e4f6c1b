-- What the report answers, and what its program prints.
pub mod Answer

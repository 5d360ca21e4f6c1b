-- What digits mean.
pub mod Numbers

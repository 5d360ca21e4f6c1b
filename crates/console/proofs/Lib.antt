-- That a written number is read back.
pub mod ReadBack

pub mod Laws
pub mod ReadBack

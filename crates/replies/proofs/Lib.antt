pub mod ReadBack
pub mod Sizes

pub mod Copies
pub mod Places
pub mod ReadBack
pub mod Rounding
pub mod Lacks

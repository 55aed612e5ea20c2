pub mod Bytes
pub mod Page
pub mod Words
pub mod ReadBack

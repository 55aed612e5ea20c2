pub mod Counts
pub mod Page

pub mod Tests
pub mod Listing
pub mod Inner

pub mod Hosts
pub mod Kept
pub mod WellFormed

pub mod Descriptors
pub mod Readings

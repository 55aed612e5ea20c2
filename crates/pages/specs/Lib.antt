pub mod Logs
pub mod Readings

pub mod Records
pub mod Drives
pub mod Inner

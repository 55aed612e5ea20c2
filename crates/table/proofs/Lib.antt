pub mod Lines
pub mod Rows
pub mod Uncut

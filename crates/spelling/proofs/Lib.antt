pub mod Lines
pub mod Uncut

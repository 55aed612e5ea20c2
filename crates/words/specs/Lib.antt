pub mod Codes
pub mod Fields
pub mod Lines
pub mod Numbers
pub mod Words

pub mod Rows
pub mod Below
pub mod Counts
pub mod Table

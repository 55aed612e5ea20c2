pub mod Calls
pub mod Described
pub mod Editions
pub mod Examples
pub mod Facts
pub mod Table

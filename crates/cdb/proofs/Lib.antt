pub mod Decision
pub mod Listed
pub mod Requests
pub mod Reserved

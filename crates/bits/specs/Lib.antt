pub mod Bits
pub mod Reserved

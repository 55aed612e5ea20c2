pub mod Epc
pub mod Inner

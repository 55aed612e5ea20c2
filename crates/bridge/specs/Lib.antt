pub mod Bridge
pub mod Inner

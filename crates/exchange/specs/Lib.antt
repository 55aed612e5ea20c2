pub mod Answered
pub mod Exchange
pub mod Inner

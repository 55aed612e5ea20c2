pub mod Editions
pub mod Kinds
pub mod Lengths
pub mod Offers
pub mod Records

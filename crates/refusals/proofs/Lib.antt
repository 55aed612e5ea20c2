pub mod Lowest
pub mod Ranks

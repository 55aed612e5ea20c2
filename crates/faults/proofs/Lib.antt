pub mod Noted
pub mod Where
pub mod Spots
pub mod Order
pub mod Given
pub mod InWords
pub mod Clean
pub mod Samples

pub mod Buffers
pub mod LogPage
pub mod Ticking
pub mod Tellings

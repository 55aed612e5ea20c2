pub mod Cuts
pub mod Ends
pub mod Places
pub mod Room
pub mod Scans
pub mod Values

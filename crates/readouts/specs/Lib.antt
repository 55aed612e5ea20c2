pub mod Readouts

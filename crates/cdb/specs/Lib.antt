pub mod Cdb

pub mod Cdbs

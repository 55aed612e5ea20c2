pub mod Numerals
pub mod Pieces
pub mod Texts
pub mod Sheets

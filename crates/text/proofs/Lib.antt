pub mod Amounts
pub mod Digits
pub mod Pieces
pub mod ReadBack
pub mod Plain

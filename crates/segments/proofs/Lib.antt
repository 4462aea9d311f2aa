pub mod Points
pub mod Marks
pub mod Paces
pub mod Along
pub mod Cover
pub mod Above

pub mod Most
pub mod Parts
pub mod Words

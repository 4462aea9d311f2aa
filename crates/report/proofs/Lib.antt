pub mod Lays
pub mod Files
pub mod Told
mod Whole

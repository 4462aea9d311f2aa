pub mod Last
pub mod Walk
pub mod Safe

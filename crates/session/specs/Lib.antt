pub mod Rows
pub mod Safe
pub mod Memory
pub mod Nothing
pub mod Kinds
pub mod Bytes
pub mod Answered

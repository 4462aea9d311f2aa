pub mod Steps
pub mod Rows
pub mod Safe
pub mod Runs
pub mod Nothing
pub mod OtherKinds
pub mod OnBytes
pub mod Scratch

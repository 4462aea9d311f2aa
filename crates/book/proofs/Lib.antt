pub mod Sums
pub mod Stored
pub mod Places
pub mod Writes
pub mod Laws
pub mod Values
pub mod Fields

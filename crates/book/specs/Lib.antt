pub mod Held
pub mod Meant
pub mod Value
pub mod Slots
pub mod Fields

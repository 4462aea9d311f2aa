pub mod Entries
pub mod Table

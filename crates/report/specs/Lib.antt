pub mod Reading
pub mod Drafts
pub mod Report

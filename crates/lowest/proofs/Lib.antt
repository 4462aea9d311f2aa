pub mod Lists
pub mod Points
pub mod Found
pub mod Words
pub mod Walk
pub mod Tells

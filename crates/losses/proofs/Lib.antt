pub mod Lists
pub mod Worst
pub mod Descent
pub mod Behind
pub mod Slots
pub mod Walk
pub mod Firsts
pub mod Risen

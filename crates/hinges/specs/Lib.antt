pub mod Below
pub mod Hinges
pub mod Sweep

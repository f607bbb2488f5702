pub mod Checks
pub mod Steps

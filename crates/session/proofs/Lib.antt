pub mod Turns
pub mod Sessions

pub mod Settling
pub mod Stretches
pub mod Underway

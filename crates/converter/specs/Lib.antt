pub mod Converting
pub mod Theorems

pub mod Bits
pub mod Passes
pub mod Several

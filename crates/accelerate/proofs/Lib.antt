pub mod Locking
pub mod Repetitions

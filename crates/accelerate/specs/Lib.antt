pub mod Acceleration

pub mod Advances
pub mod Merging

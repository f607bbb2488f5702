pub mod Laws
pub mod Boards
pub mod Steps
pub mod Starting

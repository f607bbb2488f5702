pub mod Turns
pub mod Boards
pub mod Sessions

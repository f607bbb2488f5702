pub mod Reading
pub mod Commands
pub mod Answers
pub mod Examples

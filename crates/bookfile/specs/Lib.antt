pub mod Numbers
pub mod Kinds
pub mod Reading
pub mod Replies
pub mod Inner
pub mod Marks
pub mod Writing
pub mod Theorems

pub mod Records
pub mod Writing
pub mod Forms
pub mod Converted
pub mod First
pub mod Refusals
pub mod Files

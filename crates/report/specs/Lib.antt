pub mod Text
pub mod Inner
pub mod Report
pub mod Latest

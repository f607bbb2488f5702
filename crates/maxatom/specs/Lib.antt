pub mod Rule
pub mod Class
pub mod Book
pub mod Accepted
pub mod Clauses
pub mod Inner
pub mod Passes
pub mod Runs

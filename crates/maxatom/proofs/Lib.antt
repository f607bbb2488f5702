-- The theory of max-atoms over clauses with any number of arms and any latest times, and the rules of document 01 as an instance of it.
pub mod Choose
pub mod Integers
pub mod Lists
pub mod Counting
pub mod Clauses
pub mod SmallModels
pub mod Derivations
pub mod Walks
pub mod Runs
pub mod Lockstep
pub mod Components
pub mod Lines
pub mod Rules
pub mod Plans
pub mod Classes
pub mod Signed

pub mod Counts
pub mod Data
pub mod Turn
pub mod Replica

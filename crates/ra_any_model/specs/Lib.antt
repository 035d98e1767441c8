pub mod Deterministic
pub mod Explained
pub mod Replayed
pub mod Counts
pub mod Worked

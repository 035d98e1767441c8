pub mod EqualCounts
pub mod Trimmed
pub mod Entries
pub mod TheoremIndex

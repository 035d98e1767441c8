pub mod Ranges
pub mod AgreeingReads
pub mod ExplainedReads
pub mod SameCounts
pub mod TheoremIndex

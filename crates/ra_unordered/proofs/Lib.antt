pub mod Counts
pub mod FirstReads
pub mod NextLabels
pub mod KeptSiblings

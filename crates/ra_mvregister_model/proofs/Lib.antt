pub mod UnseenLabels
pub mod ChangedSiblings
pub mod FewSiblings
pub mod Sequences
pub mod ReadValues
pub mod TheoremIndex

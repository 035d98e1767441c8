pub mod Operations
pub mod Answers
pub mod Extent
pub mod Opinions
pub mod PossibleAnswers

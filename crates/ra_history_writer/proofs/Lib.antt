pub mod SpelledLines
pub mod WrittenLines
pub mod PutBytes
pub mod Sizes
pub mod GivenAgain
pub mod Entries
pub mod WholeTexts
pub mod TheoremIndex

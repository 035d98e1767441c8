pub mod AcceptedCommands
pub mod TheoremIndex

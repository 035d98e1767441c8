pub mod Unseen
pub mod Replacing
pub mod Worked

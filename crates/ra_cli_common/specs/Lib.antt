pub mod Endings
pub mod Check

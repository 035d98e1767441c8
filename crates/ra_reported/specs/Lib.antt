pub mod Reported
pub mod Reading

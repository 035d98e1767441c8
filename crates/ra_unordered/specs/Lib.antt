pub mod FirstReads
pub mod Register
pub mod Unordered

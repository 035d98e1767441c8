pub mod Precedence
pub mod Plain

pub mod Reports
pub mod Calls

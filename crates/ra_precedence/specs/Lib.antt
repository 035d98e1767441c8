pub mod Conditions
pub mod Positions
pub mod Placing
pub mod Solved
pub mod Lasts
pub mod Reasons
pub mod Certificates

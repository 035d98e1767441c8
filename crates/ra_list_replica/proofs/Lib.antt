pub mod Counts
pub mod Lists
pub mod Places
pub mod Shows
pub mod StoredNumbers
pub mod Turns

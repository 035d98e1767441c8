pub mod Order
pub mod Ordered
pub mod Kept

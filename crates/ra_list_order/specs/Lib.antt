pub mod Chunks
pub mod EdgePool
pub mod Gathering
pub mod ListOrder
pub mod Marks
pub mod Numbers
pub mod Plans
pub mod Sweep

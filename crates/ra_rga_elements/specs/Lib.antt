pub mod Entries
pub mod Chunk
pub mod Chunks
pub mod Groups
pub mod Links
pub mod ElementList
pub mod Kept

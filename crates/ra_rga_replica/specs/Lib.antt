pub mod PendingLabels
pub mod Edits
pub mod ReplicaList
pub mod NumberSet
pub mod Cascade

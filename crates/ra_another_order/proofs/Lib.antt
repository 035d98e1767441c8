pub mod ReportedLabels
pub mod ListedOperations
pub mod Extents
pub mod KnownExtents
pub mod SearchedExtents
pub mod WrittenValues

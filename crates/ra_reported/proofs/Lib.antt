pub mod Listed
pub mod Readings
pub mod Records
pub mod LabelPlaces

pub mod FirstNumbers
pub mod LastPlaces
pub mod TheoremIndex

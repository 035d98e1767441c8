pub mod PairEdges
pub mod PlacedElements

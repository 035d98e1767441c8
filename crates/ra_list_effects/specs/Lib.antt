pub mod Past
pub mod Views
pub mod Effects

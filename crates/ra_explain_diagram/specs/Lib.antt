pub mod Arrows
pub mod Arcs
pub mod Drawn
pub mod Drawings
pub mod Pictures
pub mod Tables
pub mod Pages

pub mod Adjacent
pub mod Causes
pub mod ListWitness
pub mod Named

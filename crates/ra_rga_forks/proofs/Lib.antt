pub mod Behind
pub mod Orders
pub mod ForkOrders
pub mod ListedOrders
pub mod Trees
pub mod NamedElements
pub mod Relatives
pub mod TheoremIndex

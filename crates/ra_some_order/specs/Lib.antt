pub mod VisibleUpdates
pub mod UpdateConditions
pub mod PlainConditions
pub mod SomeOrder
pub mod Covering
pub mod LabelOrders
pub mod Worked

pub mod AddedOperations
pub mod Delivered
pub mod FirstEffects
pub mod JudgedOperations
pub mod JudgedReads
pub mod KeptOrders
pub mod Outcomes
pub mod StateViews

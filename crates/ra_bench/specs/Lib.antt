pub mod Calls
pub mod Faults
pub mod Lies
pub mod Limits
pub mod Mailbox
pub mod Report
pub mod RunFaults

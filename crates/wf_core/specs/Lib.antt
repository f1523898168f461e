pub mod Limits
pub mod Faults
pub mod Names
pub mod Bytes
pub mod Errors
pub mod Statuses
pub mod Memory
pub mod Runs

pub mod Sends
pub mod Sets

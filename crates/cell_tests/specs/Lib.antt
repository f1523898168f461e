pub mod Counting
pub mod Runners

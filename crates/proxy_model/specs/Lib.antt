pub mod Parts
pub mod Refusals
pub mod Runs
pub mod Shapes
pub mod Shown

pub mod Ring
pub mod Cells

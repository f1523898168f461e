pub mod Among
pub mod CellNumbers
pub mod Cells
pub mod CellSteps
pub mod Laws
pub mod Openings
pub mod Stores
pub mod StepLaws

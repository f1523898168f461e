pub mod Solo
pub mod Generated
pub mod WholeTree
pub mod Summary
pub mod Generate
pub mod RunStores
pub mod Laws

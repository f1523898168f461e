pub mod Beside
pub mod Scenes

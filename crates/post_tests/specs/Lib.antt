pub mod Beside
pub mod Hostile
pub mod Places
pub mod Scenes

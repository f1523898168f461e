pub mod Apart
pub mod Below
pub mod Led
pub mod Listed
pub mod Opened
pub mod Ranges
pub mod Sounds

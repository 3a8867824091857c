pub mod Flaw
pub mod Levels
pub mod Kids

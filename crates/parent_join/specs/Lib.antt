pub mod Kids
pub mod Across

pub mod Exits
pub mod Pieces
pub mod Runs

pub mod Fault
pub mod Reading
pub mod Pieces
pub mod Generating

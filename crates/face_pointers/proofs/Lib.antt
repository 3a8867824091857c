pub mod Telling
pub mod Leaves
pub mod Pieces
pub mod Runs
pub mod LeafBoxes
pub mod Standings

mod Blocks
mod Reordered
mod Ranks
pub mod FinalNames
mod Records
mod Judged
mod InputPieces
mod Headers
mod WholeTrees

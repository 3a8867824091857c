pub mod Turning
pub mod Filling
pub mod CellTurning
pub mod CellFilling
pub mod CellRows
pub mod CellDone

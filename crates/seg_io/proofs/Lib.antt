pub mod Bytes
pub mod States
pub mod InputStates
pub mod Piecing
mod Filling
mod Writing
mod Opening

pub mod Tracks
pub mod Steps
pub mod StepPlaces
pub mod RowKeys

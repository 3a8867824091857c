pub mod Walks
pub mod Halving

pub mod Refusal
pub mod Line

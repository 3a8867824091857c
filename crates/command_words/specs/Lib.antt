pub mod Words
pub mod Texts
pub mod Slots
pub mod Parts
pub mod Jobs
pub mod Parser

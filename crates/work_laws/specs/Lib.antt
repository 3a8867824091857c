pub mod SettlingLaws
pub mod Turns
pub mod FinerLaws

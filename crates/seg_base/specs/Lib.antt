pub mod Flaw

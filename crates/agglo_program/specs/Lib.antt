pub mod FileDesk
pub mod Reading
pub mod Writing
pub mod Shown
pub mod Answers
pub mod Flaws
pub mod Run
pub mod Headline

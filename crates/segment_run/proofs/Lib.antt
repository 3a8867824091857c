pub mod Ordered
pub mod ReportLines
pub mod TiesApart
pub mod Ending
pub mod JoinedLevels

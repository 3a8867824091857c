pub mod LinkedLists
pub mod Links
pub mod Examples

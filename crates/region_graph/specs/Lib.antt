pub mod SiteView
pub mod Lists
pub mod Boxes
pub mod Sorting

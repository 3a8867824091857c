pub mod OrderNumbers

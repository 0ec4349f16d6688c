pub mod Filling
pub mod Searches

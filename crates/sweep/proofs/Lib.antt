pub mod Searches
pub mod Joins
pub mod Lowers
pub mod Unlinks
pub mod Wipes
pub mod Rescues
pub mod Whole
pub mod Collecting

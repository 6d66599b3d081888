pub mod Listed
pub mod Search
pub mod Used

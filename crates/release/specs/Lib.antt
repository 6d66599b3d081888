pub mod Release
pub mod Steps
pub mod Write

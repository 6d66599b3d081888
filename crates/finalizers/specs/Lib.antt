pub mod Start
pub mod Finish

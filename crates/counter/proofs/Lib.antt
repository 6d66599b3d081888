pub mod Written
pub mod Running

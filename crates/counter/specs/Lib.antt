pub mod Served
pub mod Written

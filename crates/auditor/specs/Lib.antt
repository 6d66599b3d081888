pub mod Output
pub mod Taking
pub mod Written

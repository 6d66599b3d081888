pub mod Lines
pub mod Reading
pub mod Decimal
pub mod Written

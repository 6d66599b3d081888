pub mod Dumps
pub mod Reading
pub mod Holding
pub mod Claims

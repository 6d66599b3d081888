pub mod Started
pub mod Both
pub mod Leaving
pub mod Popping

pub mod Outcome
pub mod Progress
pub mod Raising

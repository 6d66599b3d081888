pub mod Room
pub mod Run

pub mod Room
pub mod Pieces

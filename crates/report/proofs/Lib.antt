pub mod Texts
pub mod Widths
pub mod Cells
pub mod Writing
pub mod Pieces

pub mod Bounds
pub mod Cells
pub mod Clauses

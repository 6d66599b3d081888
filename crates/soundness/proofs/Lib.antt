-- What several proofs of the crate cite.
pub mod Folds
pub mod Queueing
pub mod Slots
pub mod Cells
pub mod Scratch
pub mod Order
pub mod Whole

-- What several proofs of this crate, the soundness check and the audit cite.
pub mod Chunks
pub mod Empty
pub mod Tallying
pub mod Appending
pub mod Scratch

-- What several proofs of the crate cite.
pub mod Columns
pub mod Bounds
pub mod Comparing
pub mod Counting
pub mod Clauses
pub mod Reporting
pub mod Answering

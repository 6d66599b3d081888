-- Document 02, Q-4: what a list of heaps adds up to, and what the audit says of soundness.
pub mod Integers
pub mod Rows
pub mod Counted
pub mod Possible
pub mod Heaps
pub mod Reports
pub mod Lines
pub mod Soundness

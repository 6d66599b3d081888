-- Document 02, Q-10: the counts that take-offs meet. None is zero, and no take-off is missing from the list.
pub mod Noted
pub mod Cascade
pub mod Sweep

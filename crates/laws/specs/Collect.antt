-- COLLECT: its phases table by table, what it marks, and what it makes of a sound heap.
pub mod Phases
pub mod Unlinking
pub mod Wiping
pub mod Append
pub mod Live
pub mod Left
pub mod Swept
pub mod Ordered

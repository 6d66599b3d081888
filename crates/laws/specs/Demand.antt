-- The user's demands over the rules: one call, a list of calls, and the three theorems; what shows that they are not empty, and that more would be false.
pub mod Step
pub mod Bounds
pub mod Events
pub mod Sweep
pub mod Rescue
pub mod Counts
pub mod First
pub mod Second
pub mod Third
pub mod Stretch
pub mod Example
pub mod Witness
pub mod Stronger

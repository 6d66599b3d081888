-- Marking: what is said of marks, that rounds of marking close them, and that marking 16 deep with scans comes to the same.
pub mod Marks
pub mod Closure
pub mod Steps
pub mod Scan

pub mod Freed

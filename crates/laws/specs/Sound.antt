-- The sound heap: as facts that a proof can work with, as the rules' record, as the test that computes, and as a tally finds it.
pub mod But
pub mod Reflect
pub mod Tests
pub mod Facts
pub mod Tally

-- Lists of numbers: tests over them, how often a number stands in one, one entry or a run of entries written.
pub mod Tests
pub mod Tables
pub mod Occ
pub mod Pigeonhole
pub mod Select

-- Marks in 64-bit words: a word's bits, what the words say of cells, the search for the next one, their number, the marks of a marking, and a bit set.
pub mod Bits
pub mod Cells
pub mod Search
pub mod Count
pub mod Marks
pub mod Setting

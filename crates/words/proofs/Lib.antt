pub mod Ahead
pub mod Left
pub mod OpenWords
pub mod UsedWords

pub mod Alike
pub mod Output
pub mod Pieces
pub mod Auditing
pub mod Printing
pub mod Going
pub mod Running

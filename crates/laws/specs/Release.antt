-- Taking off: what holds in the middle of it, what it leaves and frees, and that a sound heap stays sound.
pub mod Balance
pub mod Queue
pub mod Decref
pub mod Advance
pub mod Onto
pub mod Serve
pub mod Beside
pub mod Taken

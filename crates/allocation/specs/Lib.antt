pub mod Shapes
pub mod Places

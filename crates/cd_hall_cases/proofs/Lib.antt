pub mod Crossing
pub mod Places

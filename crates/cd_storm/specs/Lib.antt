pub mod Draws
pub mod FirstTree
pub mod Scripts

pub mod Scene
pub mod Values
pub mod Escapes
pub mod Filling

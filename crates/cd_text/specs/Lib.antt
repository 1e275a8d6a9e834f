pub mod formers
pub mod Gives
pub mod Steps
pub mod Numbers
pub mod ByKey
pub mod Escapes

pub mod Turns
pub mod Both

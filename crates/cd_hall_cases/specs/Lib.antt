pub mod Passes
pub mod Plans

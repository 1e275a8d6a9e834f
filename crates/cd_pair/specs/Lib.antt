pub mod Passes
pub mod Pairs
pub mod Runs

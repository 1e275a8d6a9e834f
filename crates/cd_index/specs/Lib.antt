pub mod Hashing
pub mod Runs
pub mod Tables

pub mod Runs
pub mod Marks
pub mod Beginnings
pub mod Tables
mod Examples

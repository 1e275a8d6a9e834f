pub mod Shelving
pub mod Standings
pub mod Laws
mod RemovalExamples

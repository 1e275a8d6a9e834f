pub mod Limits
pub mod Faults
pub mod Words
pub mod Ids
pub mod Settings
pub mod Patterns
pub mod Recursion
pub mod Bare

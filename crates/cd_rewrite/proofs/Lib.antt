pub mod Occurrences
pub mod PathBytes
pub mod Replacing

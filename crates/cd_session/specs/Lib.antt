pub mod Ways
pub mod Keeping
pub mod Ends
pub mod Reading

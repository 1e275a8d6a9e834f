pub mod Rows
pub mod Together
pub mod Seating
pub mod Ends
pub mod Words
pub mod Completing
mod Examples

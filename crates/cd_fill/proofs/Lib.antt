pub mod Commas
pub mod Meanings
pub mod Characters
pub mod Braces
pub mod Pieces
pub mod Itself
pub mod Closings
pub mod Placeholders

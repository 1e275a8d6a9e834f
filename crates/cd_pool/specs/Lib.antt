pub mod Hashes
pub mod Numbers
pub mod Pairs
pub mod Slots

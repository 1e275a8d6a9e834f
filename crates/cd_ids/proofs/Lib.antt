pub mod Entries
pub mod Noted
pub mod Distinct
pub mod Walks
pub mod Loops
pub mod Sure

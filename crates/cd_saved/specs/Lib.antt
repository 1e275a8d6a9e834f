pub mod Words
pub mod Shares
pub mod Running
pub mod Top

pub mod Settings
pub mod Workers
pub mod Seen
pub mod Slots
pub mod Running
pub mod Top

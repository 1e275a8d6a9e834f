pub mod Came
pub mod Lanes
pub mod Life
pub mod Links
pub mod Streams

pub mod Telling
pub mod Connecting
pub mod Going
mod Examples

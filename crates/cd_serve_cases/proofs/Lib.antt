pub mod Works
pub mod Asks

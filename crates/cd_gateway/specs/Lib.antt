pub mod Connections
pub mod Lanes
pub mod Stepping

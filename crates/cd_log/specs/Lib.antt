pub mod Logging
pub mod Lines

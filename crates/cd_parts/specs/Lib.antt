pub mod Texts
pub mod Measures
pub mod Making
pub mod Matching
pub mod Places
pub mod Gathered
pub mod Lines

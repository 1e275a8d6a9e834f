pub mod Places
pub mod Steps
pub mod Growing
pub mod Indexes
pub mod Frames
pub mod Chains
pub mod Laying

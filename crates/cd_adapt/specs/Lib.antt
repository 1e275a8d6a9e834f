pub mod Steps
pub mod Splitting
pub mod Counting
pub mod Laying
pub mod Ports
pub mod Serving

pub mod Changes
pub mod Causes
mod Examples

pub mod Sequences
pub mod Answering
pub mod Settings
pub mod Ids
pub mod Variables

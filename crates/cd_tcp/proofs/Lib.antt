pub mod Examples
pub mod KeptBytes

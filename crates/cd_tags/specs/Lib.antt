pub mod Encoding
pub mod Framed
pub mod IfMatch
pub mod Parts
pub mod Tags

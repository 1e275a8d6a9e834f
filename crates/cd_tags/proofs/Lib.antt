pub mod Escapes
pub mod Parts
pub mod Ascii
pub mod Decoding
pub mod Forms
pub mod ReadBack

pub mod Lengths
pub mod Fitting
pub mod Soundness
pub mod Drawing
pub mod Adding
pub mod Examples

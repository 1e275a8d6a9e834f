pub mod RawFile
pub mod Untold
pub mod Gates
pub mod Attributes

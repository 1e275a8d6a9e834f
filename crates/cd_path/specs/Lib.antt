pub mod Apart
pub mod Editing
pub mod Looking
pub mod Members
pub mod Position
pub mod Puts
pub mod TooDeep

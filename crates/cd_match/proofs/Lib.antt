pub mod Levels
pub mod Alike
pub mod Naming
pub mod Bare
pub mod Labels
pub mod Sure

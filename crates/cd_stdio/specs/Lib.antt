pub mod Escaping
pub mod Lines
pub mod Moving
pub mod Names
pub mod OpenWriters

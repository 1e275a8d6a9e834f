mod Sharing
mod Held
mod Over
mod Examples

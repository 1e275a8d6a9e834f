pub mod Substrings
pub mod UriText
pub mod Steps

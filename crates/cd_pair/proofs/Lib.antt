pub mod Goes
pub mod Following
pub mod Both

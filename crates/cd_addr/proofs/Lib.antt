mod Ports
mod Cuts
mod Hosts
mod ReadBack
pub mod Ranges
pub mod Sure

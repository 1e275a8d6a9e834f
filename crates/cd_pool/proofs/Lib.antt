pub mod Counted
pub mod Gaps
pub mod Giving
pub mod Named
pub mod Numbers

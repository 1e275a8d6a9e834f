pub mod Ids
pub mod Noting
pub mod Walk

pub mod GivenParts
pub mod TakingNothing
pub mod TakingOut

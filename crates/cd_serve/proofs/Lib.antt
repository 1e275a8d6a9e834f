pub mod Longer
pub mod Together
pub mod Joined
pub mod Told
pub mod Unpublished
pub mod KeptFirst
pub mod Connecting
pub mod Completing
pub mod Going
pub mod Halts
mod Examples
mod Tellings
mod Kept
pub mod Works
pub mod Opens
pub mod Tries
pub mod Retirings
pub mod Haltings
pub mod Answered
pub mod Spending
pub mod Due
pub mod Conclusions
pub mod Sends
pub mod Begun
pub mod Acts
pub mod Responders
pub mod Stepping
pub mod Guarded
pub mod LaneStepping
pub mod LetGo

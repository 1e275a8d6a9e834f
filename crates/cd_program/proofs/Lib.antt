mod Said
pub mod Statuses
mod Numbers
pub mod Loading
mod Unpublished
mod RunEnds
mod Declined
pub mod Adapted
mod Storms
pub mod Completing
mod Sounds
mod Examples

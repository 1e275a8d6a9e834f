mod Examples
mod RunExamples
mod Signing
mod Halts
mod PartEntries
mod Parted
mod Gathered
mod Untouched
pub mod Unfailing
mod Alike
mod Beginning
mod Ending
mod Going
mod Joined
mod Turning
mod Started
mod Drafting
mod Closed
pub mod Rows
pub mod Told
pub mod Seating
mod Gone
mod FirstPass
mod Promised
mod Crossing
mod NotAlone

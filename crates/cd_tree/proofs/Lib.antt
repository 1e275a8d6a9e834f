pub mod Trees
pub mod Inside
pub mod Outcomes
pub mod Readings
pub mod Rising
pub mod Signs
pub mod Soundness
pub mod TextLengths
pub mod Marks
pub mod Turns
pub mod Found
pub mod Joined
pub mod ReadBack
pub mod Utf8Texts
mod LastBytes
mod SolidWords
mod Spots

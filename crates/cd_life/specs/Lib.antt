pub mod Changes
pub mod Origins
pub mod Shares
pub mod Fits
pub mod Standing
pub mod Rooms
pub mod Removals

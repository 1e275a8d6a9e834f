pub mod FrameSteps
pub mod SplitSteps
pub mod LayingSteps
pub mod CountSteps
pub mod PortLaws
pub mod ServingLaws
pub mod AdaptSteps
pub mod TextSteps
pub mod SoundSteps
pub mod Fine
pub mod FileParts
pub mod StatusParts
pub mod ShapeParts
pub mod Sounds
mod Examples

pub mod MeasureLaws
mod HandlerLemmas
mod LineLaws
mod PlaceSteps
mod SetSteps
pub mod TextTests
pub mod Examples

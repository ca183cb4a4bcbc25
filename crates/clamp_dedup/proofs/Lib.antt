pub mod NonePasses
pub mod ClampSteps
pub mod DedupSteps
pub mod ClampEnd
pub mod DedupEnd

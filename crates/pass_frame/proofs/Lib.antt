pub mod FrameSteps
pub mod Sweeps
pub mod Turns
pub mod SameNodes
pub mod LinksLeft

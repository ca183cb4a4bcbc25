pub mod Lists
pub mod TapLaws
pub mod ReadLaws
pub mod Joined
pub mod Sources
pub mod LevelLaws
pub mod PartLaws
pub mod Reached
mod Numbering
mod Turning

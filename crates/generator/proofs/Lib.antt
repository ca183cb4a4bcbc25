pub mod Units
pub mod Listed
pub mod Levels
pub mod Clicks
pub mod Fit
pub mod Whole

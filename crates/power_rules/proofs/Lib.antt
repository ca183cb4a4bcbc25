pub mod Alike
pub mod Listed
pub mod Joining
pub mod Moments

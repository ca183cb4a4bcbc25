pub mod Counts
pub mod Falls
pub mod Lists
pub mod Rises
pub mod Notes

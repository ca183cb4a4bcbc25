pub mod Kept
pub mod Found
pub mod Pushed
pub mod Rising

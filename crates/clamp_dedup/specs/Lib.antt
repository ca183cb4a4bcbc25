pub mod Clamped
pub mod ClampLaws
pub mod Single
pub mod Weights
pub mod DedupLaws

pub mod Fields
pub mod Presence
pub mod Palette
pub mod Cells
pub mod Entities
pub mod PendingTicks
pub mod File
pub mod Code

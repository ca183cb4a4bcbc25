pub mod Running
pub mod Given
pub mod Stores
pub use Rattle.power_rules.specs.World
pub mod Outlets
pub mod Screens
pub mod Levels
pub mod LevelNets

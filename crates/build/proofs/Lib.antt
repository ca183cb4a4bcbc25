pub mod FoundCells
pub mod StoredLevels
pub mod WholeEdits
pub mod EditedFields
pub mod LevelSteps
pub mod FoundPlaces
pub mod MarkOrder
pub mod NotedTicks

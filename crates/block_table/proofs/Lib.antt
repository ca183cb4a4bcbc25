pub mod PartSteps
pub mod PropertySteps
pub mod TableSteps
pub mod ChosenSteps
pub mod TextSteps
pub mod BlockSteps
pub mod ListedSteps
pub mod SlotSteps

pub mod EntrySteps
pub mod LayoutSteps

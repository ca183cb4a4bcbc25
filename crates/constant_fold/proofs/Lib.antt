pub mod WaitLists
pub mod TendSteps
pub mod OneEnd
pub mod TurnSteps

pub mod PackSteps
pub mod CountSteps
pub mod WiredSteps
pub mod PlaySteps
pub mod FireSteps
pub mod TickSteps
pub mod PlaceSteps
pub mod ScreenSteps
pub mod ShownSteps
pub mod WiringSteps
pub mod StartSteps
mod Rows
pub mod HeadedSteps

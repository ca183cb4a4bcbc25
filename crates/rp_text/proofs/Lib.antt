pub mod DecimalText
pub mod LineSteps
pub mod WordSteps

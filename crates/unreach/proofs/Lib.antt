pub mod UnreachSteps
pub mod RunsKeep
pub mod OneEnd

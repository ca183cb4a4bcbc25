mod FoundNodes
mod TickSteps

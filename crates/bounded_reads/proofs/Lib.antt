pub mod TwinRuns

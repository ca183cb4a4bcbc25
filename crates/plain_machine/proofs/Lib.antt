pub mod GoodSteps

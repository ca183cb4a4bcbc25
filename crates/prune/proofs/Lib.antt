pub mod ReachTest
pub mod StepChain
pub mod SearchSteps
pub mod KeySteps
pub mod OrderSteps
pub mod SampleSteps
pub mod OneEnd

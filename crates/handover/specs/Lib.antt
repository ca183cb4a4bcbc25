pub mod GivenBack
pub mod HeldByCell
pub mod Ended

pub mod Within
pub mod UnreachLaws
pub mod Reached

pub mod Nodes
pub mod Ring
pub mod RingLaws
pub mod Ticks

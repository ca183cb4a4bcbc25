pub mod EveryOrder

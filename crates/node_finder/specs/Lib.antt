pub mod TicksByCell

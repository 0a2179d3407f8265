pub mod Exchange
pub mod Tables

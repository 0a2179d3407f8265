pub mod Types
pub mod Onward

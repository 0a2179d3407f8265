pub mod Types
pub mod Faults

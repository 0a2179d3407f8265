pub mod Types
pub mod Indices
pub mod Reading

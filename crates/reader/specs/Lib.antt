pub mod Types
pub mod Reading

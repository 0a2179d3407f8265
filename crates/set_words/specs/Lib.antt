pub mod Types
pub mod SetWords
pub mod Reading
pub mod Buffers

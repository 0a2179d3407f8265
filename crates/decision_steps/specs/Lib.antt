pub mod Request
pub mod Decision
pub mod Bytes

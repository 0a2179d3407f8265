pub mod Types
pub mod Transfer
pub mod Inverse
pub mod Examples

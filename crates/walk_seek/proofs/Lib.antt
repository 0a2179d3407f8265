pub mod Ranges
pub mod Seeks

pub mod Ascending
pub mod Reached
pub mod Walks

pub mod Steps
pub mod Existence

pub mod Stores
pub mod Existence

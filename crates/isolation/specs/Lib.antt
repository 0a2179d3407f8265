pub mod Isolation
pub mod Runs

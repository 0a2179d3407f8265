pub mod Instances
pub mod Runs

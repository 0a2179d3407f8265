pub mod Room
pub mod Instances
pub mod Images

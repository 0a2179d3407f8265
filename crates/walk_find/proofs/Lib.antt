pub mod Stops
pub mod Tables

pub mod Comparing
pub mod Fronts
pub mod Parts

pub mod Fields
pub mod Indices
pub mod Fronts
pub mod Takes
pub mod Way

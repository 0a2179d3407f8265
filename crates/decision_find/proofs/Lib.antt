pub mod Chosen
pub mod Scans
pub mod Backwards
pub mod Fronts
pub mod Best
pub mod Views
pub mod OnePass

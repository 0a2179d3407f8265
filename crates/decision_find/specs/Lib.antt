pub mod Types
pub mod Found
pub mod OnePass

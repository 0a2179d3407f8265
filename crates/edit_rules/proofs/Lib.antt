pub mod Examples
pub mod Held
pub mod Refusals
pub mod Written
pub mod Storages
pub mod Outcomes
pub mod Keys
pub mod Presence

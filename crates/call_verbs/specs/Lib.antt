pub mod Calls
pub mod Phrases
pub mod CallSlots

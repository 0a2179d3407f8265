pub mod Fields
pub mod Callers
pub mod EditWords
pub mod EditSlots
pub mod EditsOnWay
pub mod Sets

pub mod Kinds
pub mod Slots
pub mod Buffers
pub mod Requests

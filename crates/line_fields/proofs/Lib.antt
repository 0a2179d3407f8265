pub mod Fronts
pub mod Buffers
pub mod FieldSlots
pub mod LineSlots
pub mod RequestSlots

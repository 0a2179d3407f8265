pub mod Layouts
pub mod Identifiers
pub mod Masks
pub mod Steps
pub mod Choices
pub mod Parts

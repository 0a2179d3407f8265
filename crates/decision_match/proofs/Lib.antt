pub mod Hands
pub mod Choices

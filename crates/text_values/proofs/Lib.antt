pub mod Puts
pub mod Digits
pub mod Parts
pub mod Examples

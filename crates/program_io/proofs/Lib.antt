pub mod Outside
pub mod Lines
pub mod TakenLines
pub mod Moved

pub mod Outside
pub mod Files
pub mod Lines
pub mod Desk

pub mod Examples
pub mod Handed
pub mod Least

pub mod Examples
pub mod Truthful

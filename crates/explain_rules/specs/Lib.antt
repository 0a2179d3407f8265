pub mod Types
pub mod Explanation
pub mod Truthful

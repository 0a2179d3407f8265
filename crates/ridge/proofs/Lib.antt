-- The theorems of specs/.
pub mod Ridge
pub mod Examples
pub mod Matches
pub mod Explanations

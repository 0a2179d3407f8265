pub mod Accepted
pub mod Again
pub mod Parts
pub mod Fronts
pub mod Promises
pub mod Inverse
pub mod Examples

pub mod Examples
pub mod Keys
pub mod Applied
pub mod Order
pub mod Accepted
pub mod Promises
pub mod One

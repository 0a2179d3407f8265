pub mod Filled
pub mod Runs
pub mod Keys
pub mod Bases
pub mod Answers
pub mod Encoded
pub mod Sized

pub mod Begins
pub mod Missing
pub mod Answers
pub mod Inverse
pub mod Examples

pub mod Answers
pub mod Told
pub mod Reports
pub mod Images
pub mod Examples

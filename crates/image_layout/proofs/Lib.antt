pub mod Walks
pub mod Limits
pub mod Layouts
pub mod Bisections

pub mod Types
pub mod Met

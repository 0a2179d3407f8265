pub mod Image
pub mod Store
pub mod Examples

pub mod Examples
pub mod Results

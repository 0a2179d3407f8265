pub mod Places
pub mod Bytes
pub mod Weights
pub mod Judged

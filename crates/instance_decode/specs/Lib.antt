pub mod Types
pub mod Decoding
pub mod Inverse
pub mod Examples
pub mod Numbers

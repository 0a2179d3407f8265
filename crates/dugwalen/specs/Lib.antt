pub mod CCall
pub mod Listed

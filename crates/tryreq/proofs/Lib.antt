pub mod Telling
pub mod Known

pub mod Admission
pub mod Standing

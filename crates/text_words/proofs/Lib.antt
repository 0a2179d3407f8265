pub mod Kept
pub mod Words
pub mod WordsFrom
pub mod Named
pub mod Parts

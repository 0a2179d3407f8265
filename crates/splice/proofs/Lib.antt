pub mod Moves
pub mod Splices

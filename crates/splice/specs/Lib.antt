pub mod Moves
pub mod Splice

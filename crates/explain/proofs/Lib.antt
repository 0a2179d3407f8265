pub mod Calls
pub mod Picks
pub mod Shows

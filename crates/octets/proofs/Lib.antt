pub mod Orders
pub mod Sames

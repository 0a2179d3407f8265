pub mod Types
pub mod TableRows
pub mod Edits
pub mod Columns
pub mod Storage
pub mod Presence

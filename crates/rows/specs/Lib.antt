pub mod Types
pub mod Fields
pub mod Rows
pub mod Forms
pub mod Steps
pub mod Tables

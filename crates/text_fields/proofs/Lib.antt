pub mod Buffers
pub mod FieldWords
pub mod RowWords

pub mod Types
pub mod FieldWords
pub mod RowWords

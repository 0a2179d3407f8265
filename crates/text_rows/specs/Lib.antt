pub mod Types
pub mod TableWords
pub mod EntryWords
pub mod FieldText
pub mod RowText

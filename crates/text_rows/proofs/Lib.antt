pub mod EntryWords
pub mod FieldText
pub mod RowText
pub mod TextLength
pub mod Examples

pub mod Growing
pub mod TableLaws
mod Texts
pub mod InGrown
pub mod TableGrows
pub mod SharedCells
pub mod GrownTables
pub mod FieldsFound

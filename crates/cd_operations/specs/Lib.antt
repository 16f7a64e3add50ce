pub mod Endings
pub mod Along
pub mod Pairs
pub mod FieldsOf
pub mod Inner

pub mod Spelling
pub mod Rows
pub mod Memory
pub mod Words

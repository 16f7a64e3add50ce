pub mod Brackets
pub mod Examples
pub mod Inner

pub mod Unions
pub mod Inner

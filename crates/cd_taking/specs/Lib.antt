pub mod Taken
pub mod Inner

pub mod Merged
pub mod Inner

pub mod Applications
pub mod Inner

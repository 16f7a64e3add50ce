pub mod Accepted
pub mod Inner

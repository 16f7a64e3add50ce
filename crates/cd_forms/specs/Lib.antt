pub mod Arrows
pub mod Labels
pub mod Unions
pub mod Inner

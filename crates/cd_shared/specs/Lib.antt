pub mod Equation
pub mod Shared
pub mod Inner

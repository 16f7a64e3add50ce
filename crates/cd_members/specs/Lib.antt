pub mod Attempts
pub mod Held
pub mod Inner

pub mod Compiled
pub mod Tested
pub mod Inner

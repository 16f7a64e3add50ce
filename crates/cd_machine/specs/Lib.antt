pub mod PlainRan
pub mod Inner

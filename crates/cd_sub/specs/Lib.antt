pub mod SubAnswer
pub mod Inner

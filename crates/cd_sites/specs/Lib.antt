pub mod Sites
pub mod TakenElements
pub mod Inner

pub mod PlainFormula
pub mod Nodes
pub mod Inner

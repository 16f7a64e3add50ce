pub mod Spans
pub mod Lexing
pub mod Inner

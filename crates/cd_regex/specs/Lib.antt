pub mod Regular
pub mod PlainRegular
pub mod Sequences
pub mod Automaton
pub mod Examples

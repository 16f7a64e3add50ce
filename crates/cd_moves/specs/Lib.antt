pub mod Automaton
pub mod Inner

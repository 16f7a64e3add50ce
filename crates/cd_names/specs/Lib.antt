pub mod Labels
pub mod ProgramFaults
pub mod Arrows
pub mod Inner

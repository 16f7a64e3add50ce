pub mod Misses
pub mod Faults
pub mod ProgramFaults
pub mod Least

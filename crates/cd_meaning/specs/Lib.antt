pub mod Sets
pub mod Functions
pub mod Sequences
pub mod Records
pub mod Integers

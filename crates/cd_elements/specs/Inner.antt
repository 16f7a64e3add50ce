-- What serves private functions. No public clause speaks of it.
pub mod Marks
pub mod Tasks
pub mod Rows
pub mod Looks
pub mod Sequences
pub mod Writing

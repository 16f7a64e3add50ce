-- What serves private functions. No public clause speaks of it.
pub mod Shapes
pub mod Tasks
pub mod Rows
pub mod Asked
pub mod Steps
pub mod Slots
pub mod Entries
pub mod Along
pub mod Running

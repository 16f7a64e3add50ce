-- What serves private functions. No public clause speaks of it.
pub mod Entries
pub mod Labels
pub mod Rows
pub mod Saying
pub mod Leaving
pub mod Standing
pub mod Rests
pub mod Plain

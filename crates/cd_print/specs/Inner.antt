-- What serves private functions. No public clause speaks of it.
pub mod Texts
pub mod Looks
pub mod Tasks

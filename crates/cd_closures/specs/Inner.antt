-- What serves private functions. No public clause speaks of it.
pub mod Collected
pub mod Asked
pub mod Wholes
pub mod Entries
pub mod Tables
pub mod Ready

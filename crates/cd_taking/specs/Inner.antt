-- What serves private functions. No public clause speaks of it.
pub mod Adds
pub mod Machine
pub mod Meaning
pub mod Work
pub mod Coded
pub mod Stepping
pub mod Running

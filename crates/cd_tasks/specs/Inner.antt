-- What serves private functions. No public clause speaks of it.
pub mod AfterWords
pub mod Odometers
pub mod Groups

-- What serves private functions. No public clause speaks of it.
pub mod Quoted
pub mod Standing
pub mod Number
pub mod Numerals
pub mod Commenting
pub mod Quoting
pub mod SignTable
pub mod Reading
pub mod Prefixes
pub mod Runs

-- What serves private functions. No public clause speaks of it.
pub mod Joins
pub mod Merging
pub mod Comparing
pub mod Spelling
pub mod Extremes

-- What serves private functions. No public clause speaks of it.
pub mod Bounds
pub mod Combined
pub mod Results

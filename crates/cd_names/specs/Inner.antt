-- What serves private functions. No public clause speaks of it.
pub mod FindingInPrograms
pub mod PlainFound
pub mod Faults
pub mod TwoByTwo

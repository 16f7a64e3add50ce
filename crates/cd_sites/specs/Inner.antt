-- What serves proofs and private functions. No public clause speaks of it.
pub mod Differences
pub mod Members

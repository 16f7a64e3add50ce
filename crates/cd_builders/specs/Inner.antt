-- What serves proofs and private functions. No public clause speaks of it.
pub mod Alone
pub mod Members
pub mod Outermost

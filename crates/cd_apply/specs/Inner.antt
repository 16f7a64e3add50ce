-- What serves proofs and private functions. No public clause speaks of it.
pub mod Results
pub mod FunctionClauses
pub mod PlainClauses
pub mod Found
pub mod PlainDivided
pub mod ImageUnions
pub mod Images
pub mod Subsuming
pub mod Applied

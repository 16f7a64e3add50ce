-- What serves proofs and private functions. No public clause speaks of it.
pub mod WaysIn
pub mod Completed
pub mod Gathering
pub mod Building
pub mod PlainGroups
pub mod PlainSteps
pub mod PlainJoint
pub mod Plans

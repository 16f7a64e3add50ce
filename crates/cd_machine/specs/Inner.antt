-- What serves private functions. No public clause speaks of it.
pub mod Turn
pub mod Entering
pub mod Resuming
pub mod Nodes
pub mod CodeTurns
pub mod PlainFrame
pub mod Known
pub mod InOrder
pub mod Entries
pub mod Meeting
pub mod CodeIn
pub mod Endings
pub mod Running
pub mod AtHand

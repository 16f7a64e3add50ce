-- What serves private functions. No public clause speaks of it.
pub mod Ends
pub mod PlainTerminal
pub mod Open
pub mod Leading
pub mod Going

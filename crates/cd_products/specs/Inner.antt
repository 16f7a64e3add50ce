-- What serves private functions. No public clause speaks of it.
pub mod Tests
pub mod ClauseBoxes
pub mod PlainBoxes
pub mod After
pub mod Apart
pub mod Basic
pub mod Sets
pub mod Covering

-- What serves private functions. No public clause speaks of it.
pub mod Basic
pub mod Ready
pub mod Holding
pub mod RecordFields

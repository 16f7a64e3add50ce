-- What serves private functions. No public clause speaks of it.
pub mod Numbered
pub mod Bindings
pub mod Taking

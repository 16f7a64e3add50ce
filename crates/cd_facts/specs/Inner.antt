-- What serves private functions. No public clause speaks of it.
pub mod Known
pub mod Rising
pub mod Finding

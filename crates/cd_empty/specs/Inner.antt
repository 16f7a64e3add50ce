-- What serves private functions. No public clause speaks of it.
pub mod PlainFrame
pub mod Fit
pub mod Doing
pub mod Running
pub mod Looking
pub mod Working
pub mod Splitting

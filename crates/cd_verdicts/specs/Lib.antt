pub mod Verdicts
pub mod Witnesses
pub mod Looking
pub mod Hashing

-- What serves private functions. No public clause speaks of it.
pub mod Collecting
pub mod PlainParts
pub mod SoundPatterns
pub mod SoundInterfaces
pub mod Keys
pub mod ByPlace
pub mod Numbers
pub mod Found

mod Same
mod Sound
mod OfQuestion
pub mod Reading
pub mod Members
pub mod Labels
mod FieldAt
pub mod Sizes

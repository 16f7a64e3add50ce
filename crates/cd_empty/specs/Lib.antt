pub mod Kept
pub mod Seen
pub mod Growth
pub mod Inner

pub mod CapturedTypes
pub mod ArrowsAlike
pub mod Refuted
pub mod ProgramRefuted
pub mod Monotone
pub mod LeastForms
mod Examples

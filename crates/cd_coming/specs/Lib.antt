pub mod CapturedTypes
pub mod Coming

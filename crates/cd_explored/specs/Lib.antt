pub mod NextPlaces
pub mod Explored
pub mod CaptureNodes
pub mod StepFormulas
pub mod Captures
pub mod Inner

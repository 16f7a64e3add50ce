pub mod KernelsCapture
pub mod HeldCaptures
pub mod HeldLater
pub mod Comes

pub mod NilIsElement
pub mod AllOf
pub mod TakenCaptures
pub mod Unfolding
pub mod Falling
pub mod Binding
pub mod PatternsAlike
pub mod Retyped
pub mod VariablesAlike
pub mod NamedAlike
pub mod AlikeTakes
pub mod TakesOnce
pub mod ResolvedPatterns
pub mod AllWays
pub mod UnboundVariables
pub mod BoundVariables
pub mod CapturedVariables
mod RestsTake
mod RestsHold
mod SoundKernel

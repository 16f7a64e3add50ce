mod VariableNumbers
mod EnvironmentsJoined
mod BindingsStay
mod PartsPut
mod RightTests
mod EnvironmentsCaptured
mod KernelTakes
mod CodeTakes
mod NamesBound
mod PatternsBound
mod PatternsNumbered
pub mod ReadyStays
mod TakenParts

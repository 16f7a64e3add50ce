-- What serves private functions. No public clause speaks of it.
pub mod OnDocument
pub mod Inputs
pub mod ArrowsLeft
pub mod WorkProgram
pub mod WorkValues
pub mod WorkCounted
pub mod WorkQueries
pub mod Asking

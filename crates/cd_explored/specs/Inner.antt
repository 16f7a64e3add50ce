-- What serves private functions. No public clause speaks of it.
pub mod PlainSteps
pub mod NumberedSteps
pub mod NodeSteps
pub mod Choices
pub mod FieldRows
pub mod Exploring
pub mod Reached
pub mod Givers
pub mod Wanted
pub mod Plan
pub mod Made

pub mod TextErrors
pub mod Spelled
pub mod SameNames
mod Comparing

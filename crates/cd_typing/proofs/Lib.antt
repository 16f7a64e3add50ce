pub mod Subsets
pub mod Widening
pub mod Later
pub mod NamesBefore
pub mod Narrowing
pub mod TypesKept
pub mod Examples
pub mod BuiltInSets

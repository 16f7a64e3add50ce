pub mod PlainTreeParts
pub mod TreeMakes
pub mod OfTypes
pub mod Inner

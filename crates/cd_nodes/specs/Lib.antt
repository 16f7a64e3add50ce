pub mod HasNode
pub mod ConstantsInRange

pub mod Core
pub mod PlainParts
pub mod Inner

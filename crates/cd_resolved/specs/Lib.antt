pub mod Kernels
pub mod Interfaces
pub mod Parts
pub mod PlainSite
pub mod Resolved
pub mod Inner

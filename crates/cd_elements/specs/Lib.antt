pub mod Parts
pub mod Comparing
pub mod Table
pub mod Sound
pub mod OneProof
pub mod Elements
pub mod Inner

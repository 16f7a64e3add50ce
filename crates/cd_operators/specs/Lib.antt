pub mod Tools
pub mod Misfits
pub mod ResultTypes
pub mod Inner

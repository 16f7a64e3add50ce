pub mod Faults
pub mod Checked
pub mod Inner

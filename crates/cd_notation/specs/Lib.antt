pub mod Open
pub mod OpenOf
pub mod Faulty
pub mod Inner

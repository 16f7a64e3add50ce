pub mod FirstPlaces
pub mod Faults
pub mod Errors
pub mod PlainReported
pub mod Least
pub mod Named
pub mod Wanted
pub mod Inner

pub mod Known
pub mod Mappings
pub mod MappedArrows
pub mod Inner

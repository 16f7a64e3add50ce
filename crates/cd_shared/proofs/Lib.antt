pub mod FormulasStand
pub mod Renaming
pub mod Images
mod SameLists
mod Classified
mod GoneOver

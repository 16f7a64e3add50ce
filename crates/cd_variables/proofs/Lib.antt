mod Views
mod NamesFound
mod NamesAmong
mod Since
mod Sides
mod Stepping
mod Adding
mod MisplacedFound
mod RowsFound
mod TurnsFound
pub mod VariablesFound
pub mod Chosen

mod SoFar
pub mod Ways
pub mod Languages
mod Accepting
mod Fitting
mod StateForms
mod StatesInGraph
mod SoundStates
mod StatesInRow
pub mod Holding

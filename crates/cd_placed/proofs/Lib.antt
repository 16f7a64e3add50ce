mod Once
mod HeldPlaces
mod KeptPlaces
mod QueryPlaces
mod KeptByOnes
mod KeptByTwos
mod KeptByThrees
mod KeptByMakes
mod PlacesInOrder
mod TokensInOrder
mod FunctionPlaces
mod PatternStarts
mod DifferentPlaces
pub mod PlacesOfPrograms
pub mod TokensInRange
mod PartsInRange
mod ExprsInRange
mod QueriesInRange
mod OnesInRange
mod TwosInRange
mod ThreesInRange
mod MakesInRange
pub mod ProgramsInRange

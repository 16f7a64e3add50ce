mod LocalNames
pub mod ExprSizes
mod FirstReported
mod CheckedTrees
mod Covering
mod FaultsFound
mod FoundMade
mod ProgramReported
mod OccurrenceNames
mod NoVariables
mod SoundParts
mod RegularVariables
mod PatternVariables
mod GatheredDisjoint
mod LabelsOnce
mod NamedPatterns
pub mod FreeOfFaults
pub mod ArrowsResolved

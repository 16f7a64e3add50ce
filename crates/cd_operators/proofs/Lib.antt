pub mod Missing
mod Outcomes
mod BuiltInNodes
mod Refused
mod LaterWorlds
mod ListsOfLists
mod Numbers
mod NodesKept
mod ZeroAsked
mod OpenRecords
mod Operated
mod OfIntervals
mod OfSets
mod ResultNodes

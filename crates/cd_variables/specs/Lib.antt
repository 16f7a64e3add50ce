pub mod Occurrences
pub mod VariableFaults
pub mod PlainOccurrences
pub mod FindingMisplaced
pub mod FindingVariables

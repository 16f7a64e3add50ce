pub mod Numbering
pub mod VerdictsFound
pub mod QuestionsDiffer
pub mod SettledLists
pub mod QuestionsSeen
pub mod WitnessesOfVerdicts
pub mod WordsHashed

pub mod LongerGraphs
pub mod ChainsHold
pub mod Followed
pub mod UnionsHold
pub mod ArrowsHold
pub mod TextsHold
pub mod FieldsSorted
pub mod RecordsHold
pub mod SequencesHold
pub mod SortedCode
pub mod LettersNumbered
pub mod MembersOfUnions
pub mod PutHolds
pub mod ConstantsHold
pub mod ItemsPut
mod ByNumber
mod FormulasInLongerGraphs
mod ListNodes
mod StatesExplored
mod JoinedNodes
mod StateNodes
mod ItemsOfStates
mod Marking
mod SameQuestions
mod StateFormulasMade
mod ItemsGathered
mod VerdictsRead
mod NilAsked
mod JoinsKnown
mod ListTypes
mod Outcomes

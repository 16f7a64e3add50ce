pub mod EnteredRight
pub mod ResumedRight
pub mod KnownTurns
pub mod NodesAdded
pub mod Staying
pub mod CodeReady
pub mod Afterwards
pub mod BranchesTried
pub mod EnteredTurns
pub mod Applying
pub mod ItemsMapped
pub mod MachineRuns
pub mod KnownProgram
pub mod OperatorsAtHand
mod Literals

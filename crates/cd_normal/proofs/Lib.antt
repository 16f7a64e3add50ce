mod Lists
mod Stacks
mod ExactSets
mod Nothing
mod ExactHalves
mod Collected
mod ConjunctsJoined
pub mod BasicsOfQuestions
mod ClausesOfKinds
mod Refusals
mod NextConjuncts
mod ConjunctsOfNodes
mod NeedsOfConjuncts
mod FieldNeeds

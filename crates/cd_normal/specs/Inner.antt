-- What serves private functions. No public clause speaks of it.
pub mod PlainConjunct
pub mod PlainKind
pub mod PlainPartial
pub mod ClausesOfKinds
pub mod NextConjuncts
pub mod IsNeed
pub mod ExactSets

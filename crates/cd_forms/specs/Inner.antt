-- What serves proofs and private functions. No public clause speaks of it.
pub mod Chains
pub mod Letters
pub mod Sorting
pub mod Members
pub mod ArrowFormulas
pub mod Putting
pub mod Asking
pub mod Numbered
pub mod States
pub mod ItemQuestions
pub mod Ending
pub mod StateFormulas
pub mod ListFormulas
pub mod Joins

pub mod Orders
pub mod EquationsSolved
pub mod TypesResolved
pub mod ConstantsSound
pub mod PatternsTyped
pub mod PatternFacts
pub mod ProgramsTyped

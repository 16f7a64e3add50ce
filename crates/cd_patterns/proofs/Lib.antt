pub mod TypesInTurn
pub mod Filling
pub mod AlikeFilled
pub mod TypesSound
pub mod PatternsResolved
pub mod RowsFit
pub mod ProperPatterns

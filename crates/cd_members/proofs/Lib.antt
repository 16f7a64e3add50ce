mod AtomTexts
mod Basics
mod Lists
mod Ready
mod PairAttempts
mod XmlAttempts
mod ArrowAttempts
mod PutFields
mod LabelsOnce
mod FieldsOnce
mod RecordsForRows
mod RecordAttempts
mod Growing
pub mod HeldIsLeft

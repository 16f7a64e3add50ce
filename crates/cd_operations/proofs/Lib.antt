mod Literals
mod Labels
mod TruthNames
pub mod ItemsAlong
mod FieldsSelected
mod TextWritten
mod CharactersPushed
mod Turning
mod Prepending
mod Joining
mod FieldsMerged
mod PartsMerged
mod PartsPut
mod PairsCompared
mod DigitsRead
mod CharactersRead
mod Decimals
mod Seeking

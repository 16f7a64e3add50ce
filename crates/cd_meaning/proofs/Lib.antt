pub mod SequencesFollowed
pub mod FunctionsMapping

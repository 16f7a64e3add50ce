pub mod Stacks
pub mod Literals
mod NilSpelled
mod Writing
mod Spines
mod FieldRows
pub mod OneSign
pub mod Decimals
pub mod QuotedBack
pub mod ReadsOn
pub mod TextsJoined
pub mod PlainRead
pub mod SpinesRead
pub mod FieldsRead
pub mod ReadBack

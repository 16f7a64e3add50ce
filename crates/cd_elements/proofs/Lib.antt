pub mod TableLaws
mod SameShapes
mod Inserting
pub mod Outputs
pub mod Joining
pub mod Marks
pub mod Stacks
pub mod Looks
pub mod Sequences
pub mod WholeRows
pub mod Letters
pub mod Writes

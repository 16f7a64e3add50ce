pub mod NextItem
pub mod LastPart
pub mod FirstMovesMade
pub mod RowsOnce
pub mod RowsMade
pub mod RowsFollowed

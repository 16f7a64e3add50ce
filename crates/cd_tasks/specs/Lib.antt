pub mod LeftWithout
pub mod PlainTask
pub mod Assignments
pub mod Inner
pub mod RowWalks
pub mod Walks
pub mod Within

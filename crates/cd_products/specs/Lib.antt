pub mod Boxes
pub mod InBoxes
pub mod QuestionBoxes
pub mod Products
pub mod Keeping
pub mod Inner

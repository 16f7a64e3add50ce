pub mod Expr
pub mod PlainExpr
pub mod PlainProgram
pub mod WellMade

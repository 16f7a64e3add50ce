pub mod PlainClause
pub mod HoldNothing
pub mod Partials
pub mod ConjunctsGoOn
pub mod Inner

-- Clauses all of whose parts are nodes among so many.
use Rattle.std.specs.Prelude.{ℕ, ◌<◌}
use Rattle.cd_model.specs.AllOf.{AllOf}
use Rattle.cd_rules.specs.Clauses.{Clause, Pair, Triple, RecordType, Pairs, Xmls, Records, Arrows}

abbrev pub IsPairWithin : (nodes : ℕ) → Pair → Type 0
IsPairWithin nodes parts = (parts.0.0 < nodes) × (parts.1.0 < nodes)

abbrev pub IsXmlWithin : (nodes : ℕ) → Triple → Type 0
IsXmlWithin nodes parts = (parts.0.0 < nodes) × (parts.1.0 < nodes) × (parts.2.0 < nodes)

-- the node of each field of a record type is among so many, and its rest
abbrev pub IsTypeWithin : (nodes : ℕ) → RecordType → Type 0
IsTypeWithin nodes type = AllOf (λ field. field.1.type.0 < nodes) type.named × (type.rest.0 < nodes)

-- so are all parts of a clause
abbrev pub IsWithin : (nodes : ℕ) → Clause → Type 0
IsWithin nodes (Pairs wanted refused) =
    AllOf (IsPairWithin nodes) wanted × AllOf (IsPairWithin nodes) refused
IsWithin nodes (Xmls wanted refused) =
    AllOf (IsXmlWithin nodes) wanted × AllOf (IsXmlWithin nodes) refused
IsWithin nodes (Records wanted refused) =
    AllOf (IsTypeWithin nodes) wanted × AllOf (IsTypeWithin nodes) refused
IsWithin nodes (Arrows wanted refused) =
    AllOf (IsPairWithin nodes) wanted × AllOf (IsPairWithin nodes) refused
IsWithin nodes clause = Unit {0}

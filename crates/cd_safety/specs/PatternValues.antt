-- Branches at a value: which of them is the first to take it, and what it captures.
use Rattle.std.specs.Prelude.{◌≡◌, List, Option, Some, None}
use Rattle.cd_syntax.specs.Name.{Name}
use Rattle.cd_syntax.specs.TypeTree.{Tree}
use Rattle.cd_model.specs.AllOf.{AllOf}
use Rattle.cd_model.specs.Interfaces.{Interfaces}
use Rattle.cd_model.specs.Scope.{Scope}
use Rattle.cd_model.specs.Thing.{Thing}
use Rattle.cd_matching.specs.Captures.{Captures}
use Rattle.cd_matching.specs.Takes.{WrittenValueTakes}
use Rattle.cd_program.specs.Expr.{Branches, NoBranch, ABranch}
use Rattle.cd_typing.specs.Typ.{Typ, Types, type_at}
use Rattle.cd_safety.specs.ValueIn.{ValueIn, IsTypedValue}

module _ (interfaces : Interfaces) where
  -- the types are those of just the names that capture something, and hold what these capture
  abbrev pub ValueFits : Option Typ → Option Thing → Type 0
  ValueFits None found = found ≡ None
  ValueFits (Some t) found =
      (v : Thing) × (found ≡ Some v) × IsTypedValue interfaces v × ValueIn interfaces t v

  abbrev pub ValuesFit : Types → Captures Name → Type 0
  ValuesFit types captures = (name : Name) → ValueFits (type_at types name) (captures name)

  -- each name that has a type is seen, and means a value of the type
  abbrev pub NamesFit : Types → (seen : Name → Option Thing) → Type 0
  NamesFit types seen = (name : Name) (t : Typ) → type_at types name ≡ Some t
      → (v : Thing) × (seen name ≡ Some v) × IsTypedValue interfaces v × ValueIn interfaces t v

  module _ (scope : Scope) where
    -- the pattern is the first to take a value of the type, with these captures
    pub record IsFirstOfValue (before : List Tree) (pattern : Tree) (matched : Typ) (v : Thing)
        (captures : Captures Name) : Type 0 where
      pub typed : IsTypedValue interfaces v
      pub in_type : ValueIn interfaces matched v
      pub earlier : AllOf (λ other. WrittenValueTakes interfaces scope other v None) before
      pub takes : WrittenValueTakes interfaces scope pattern v (Some captures)

    -- no branch takes the value
    abbrev pub FailAll : Branches → Thing → Type 0
    FailAll NoBranch v = Unit {0}
    FailAll (ABranch pattern body rest) v =
        WrittenValueTakes interfaces scope pattern v None × FailAll rest v

-- Values whose closures have a fact, and what a safe run may end with.
use Rattle.std.specs.Prelude.{ℕ}
use Rattle.cd_model.specs.BuiltIns.{built_ins, DATA}
use Rattle.cd_model.specs.Interfaces.{Interfaces}
use Rattle.cd_model.specs.Thing.{Thing, Pair, Xml, Record, Function}
use Rattle.cd_model.specs.Thing.{Closure, Fields, NoField, Field, AreValues, EachOfFields}
use Rattle.cd_typing.specs.Typ.{Typ, typ}
use Rattle.cd_evaluation.specs.Runs.{Outcome, Done, Raised, Overflow, Spent, Stuck}
use Rattle.cd_safety.specs.OfInterface.{HasArrows}
use Rattle.cd_safety.specs.ValueIn.{ValueIn, IsTypedValue}

-- the built-in type of data
abbrev pub data_type : Typ
data_type = typ built_ins DATA

-- a fact of each closure in a value, and of each closure in its environment
module _ (fact : ℕ → Fields → Type 0) where
  abbrev mutual
    pub IsSound : Thing → Type 0
    IsSound (Pair first second) = IsSound first × IsSound second
    IsSound (Xml tag attributes content) =
        IsSound tag × IsSound attributes × IsSound content
    IsSound (Record fields) = AreSound fields
    IsSound (Function pairs) = ⊥
    IsSound (Closure function environment) = fact function environment × AreSound environment
    IsSound is = Unit {0}

    pub AreSound : Fields → Type 0
    AreSound NoField = Unit {0}
    AreSound (Field label value rest) = IsSound value × AreSound rest

  module _ (interfaces : Interfaces) where
    pub record IsGood (v : Thing) : Type 0 where
      pub typed : IsTypedValue interfaces v
      pub sound : IsSound v

    -- the values of some fields
    pub record AreGood (fields : Fields) : Type 0 where
      pub are_values : AreValues fields
      pub have_arrows : EachOfFields (HasArrows interfaces) fields
      pub sound : AreSound fields

    -- a good value that is as wanted, a good value that was raised and is data, or an end of the
    -- run; never stuck
    abbrev pub IsFine : (wanted : Thing → Type 0) → Outcome → Type 0
    IsFine wanted (Done v) = IsGood v × wanted v
    IsFine wanted (Raised v) = IsGood v × ValueIn interfaces data_type v
    IsFine wanted Overflow = Unit {0}
    IsFine wanted Spent = Unit {0}
    IsFine wanted Stuck = ⊥

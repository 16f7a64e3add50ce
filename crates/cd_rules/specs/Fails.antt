-- Why no way meets a need: a tree of cases. A case gives one of the list to each side in turn,
-- whichever one is at hand, until a fact of the sides is seen.
use Rattle.std.specs.Prelude.{◌≡◌, List, ◌∷◌, map, Some, None}
use Rattle.cd_syntax.specs.Name.{Name}
use Rattle.cd_model.specs.AllOf.{AnyOf}
use Rattle.cd_rules.specs.Clauses.{RecordType}
use Rattle.cd_rules.specs.Needs.{to_one, to_other, to_first, to_middle, to_last}
use Rattle.cd_rules.specs.Rows.{Reason, Reasons}

pub data Fails {X : Type 0} (Fact : List X × List X → Type 0) (all : List X)
    : List X × List X → Type 0 where
  seen : (given : List X × List X) → Fact given → Fails Fact all given
  cases : (given : List X × List X) (x : X) → AnyOf (λ other. other ≡ x) all
      → Fails Fact all (to_one x given) → Fails Fact all (to_other x given) → Fails Fact all given

-- the same with three sides
pub data ThreeFail {X : Type 0} (Fact : List X × List X × List X → Type 0) (all : List X)
    : List X × List X × List X → Type 0 where
  three_seen : (given : List X × List X × List X) → Fact given → ThreeFail Fact all given
  three_cases : (given : List X × List X × List X) (x : X) → AnyOf (λ other. other ≡ x) all
      → ThreeFail Fact all (to_first x given) → ThreeFail Fact all (to_middle x given)
      → ThreeFail Fact all (to_last x given) → ThreeFail Fact all given

-- and of rows: a case gives one refused type each reason in turn
pub data RowsFail (Fact : Reasons → Type 0) (labels : List Name) (refused : List RecordType)
    : Reasons → Type 0 where
  row_seen : (given : Reasons) → Fact given → RowsFail Fact labels refused given
  row_cases : (given : Reasons) (type : RecordType) → AnyOf (λ other. other ≡ type) refused
      → ((reason : Reason) → AnyOf (λ other. other ≡ reason) (None ∷ map Some labels)
      → RowsFail Fact labels refused ((type, reason) ∷ given))
      → RowsFail Fact labels refused given

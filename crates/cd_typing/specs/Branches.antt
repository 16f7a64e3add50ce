-- Branches: which elements come to each of them, and what their variables capture.
use Rattle.std.specs.Prelude.{◌≡◌, ◌⊎◌, List, [], ◌∷◌, Option, Some, None}
use Rattle.cd_syntax.specs.Name.{Name}
use Rattle.cd_syntax.specs.TypeTree.{Tree}
use Rattle.cd_model.specs.AllOf.{AllOf}
use Rattle.cd_model.specs.Scope.{Scope}
use Rattle.cd_model.specs.Thing.{Thing, IsElement}
use Rattle.cd_matching.specs.Captures.{Captures}
use Rattle.cd_matching.specs.Takes.{WrittenTakes}
use Rattle.cd_program.specs.Expr.{Branches, NoBranch, ABranch}
use Rattle.cd_meaning.specs.Sets.{Set}
use Rattle.cd_typing.specs.Typ.{Typ, In, Types, type_at}

abbrev pub patterns_of : Branches → List Tree
patterns_of NoBranch = []
patterns_of (ABranch pattern body rest) = pattern ∷ patterns_of rest

-- the types are those of just the names that capture something, and hold what these capture
abbrev pub FitsOne : Option Typ → Option Thing → Type 0
FitsOne None found = found ≡ None
FitsOne (Some t) found = (d : Thing) × (found ≡ Some d) × In t d

abbrev pub Fit : Types → Captures Name → Type 0
Fit types captures = (name : Name) → FitsOne (type_at types name) (captures name)

module _ (scope : Scope) where
  -- the pattern is the first to take an element of the set, with these captures
  pub record IsFirst (before : List Tree) (pattern : Tree) (matched : Set) (e : Thing)
      (captures : Captures Name) : Type 0 where
    pub element : IsElement e
    pub in_set : matched e
    pub earlier : AllOf (λ other. WrittenTakes scope other e None) before
    pub takes : WrittenTakes scope pattern e (Some captures)

  -- the types hold all that is captured of such elements
  abbrev pub HoldCaptured : Types → (before : List Tree) → (pattern : Tree) → (matched : Set)
      → Type 0
  HoldCaptured types before pattern matched = (e : Thing) (captures : Captures Name)
      → IsFirst before pattern matched e captures → Fit types captures

  -- a branch takes the element
  abbrev pub IsTaken : Branches → Thing → Type 0
  IsTaken NoBranch e = ⊥
  IsTaken (ABranch pattern body rest) e =
      ((captures : Captures Name) × WrittenTakes scope pattern e (Some captures)) ⊎ IsTaken rest e

  -- the branches take each element of the set
  abbrev pub Cover : Branches → Set → Type 0
  Cover branches matched = (e : Thing) → IsElement e → matched e → IsTaken branches e

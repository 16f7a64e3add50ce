-- Least types: those that an expression has, within each other one that it has.
use Rattle.std.specs.Prelude.{◌⊎◌, ◌++◌, List, [], ◌∷◌, Option, Some, None}
use Rattle.cd_syntax.specs.Name.{Name}
use Rattle.cd_syntax.specs.TypeTree.{Tree}
use Rattle.cd_model.specs.Scope.{Scope}
use Rattle.cd_model.specs.Thing.{Thing}
use Rattle.cd_matching.specs.Captures.{Captures}
use Rattle.cd_program.specs.Expr.{Expr, Tail, Branches, NoBranch, ABranch}
use Rattle.cd_meaning.specs.Functions.{AllMapInto}
use Rattle.cd_meaning.specs.Sets.{Set, ◌⊆◌}
use Rattle.cd_typing.specs.Branches.{IsFirst}
use Rattle.cd_typing.specs.Typ.{Typ, In, IsType, Types}
use Rattle.cd_typing.specs.Typing.{Has, TailHas}
use Rattle.cd_least.specs.Misses.{AreCaptured}

-- the types of the one list are within those of the other, one by one
abbrev pub AllWithin : (types others : List Typ) → Type 0
AllWithin [] [] = Unit {0}
AllWithin (t ∷ types) (s ∷ others) = (In t ⊆ In s) × AllWithin types others
AllWithin types others = ⊥

-- what is in one of the types that are there
abbrev pub InOne : List (Option Typ) → Set
InOne [] d = ⊥
InOne (None ∷ results) d = InOne results d
InOne (Some r ∷ results) d = In r d ⊎ InOne results d

-- the type that is there, if there is one, is within this set
abbrev pub IsWithin : Set → Option Typ → Type 0
IsWithin wanted None = Unit {0}
IsWithin wanted (Some r) = In r ⊆ wanted

pub record IsLeast (scope : Scope) (types : Types) (e : Expr) (t : Typ) : Type 0 where
  pub is_type : IsType t
  pub has : Has scope types e t
  pub least : (s : Typ) → IsType s → Has scope types e s → In t ⊆ In s

module _ (scope : Scope) (types : Types) where
  -- the types of parts are within any others that the parts have
  abbrev pub AreLeast : {A : Type 0} (have : Types → A → List Typ → Type 0) → A → List Typ → Type 0
  AreLeast have all parts = (others : List Typ) → have types all others → AllWithin parts others

  -- the type of a body for what its branch is the first to take, or none where nothing comes to it
  abbrev pub IsBodyLeast : (before : List Tree) (pattern : Tree) (matched : Set) (body : Expr)
      → Option Typ → Type 0
  IsBodyLeast before pattern matched body None =
      (e : Thing) (captures : Captures Name) → IsFirst scope before pattern matched e captures → ⊥
  IsBodyLeast before pattern matched body (Some r) = (e : Thing) × (captures : Captures Name)
      × IsFirst scope before pattern matched e captures × (own : Types)
      × AreCaptured scope own before pattern matched × IsLeast scope (own ++ types) body r

  -- and those of all bodies
  abbrev pub AreBodiesLeast : (before : List Tree) (matched : Set) → Branches → List (Option Typ)
      → Type 0
  AreBodiesLeast before matched NoBranch [] = Unit {0}
  AreBodiesLeast before matched (ABranch pattern body rest) (found ∷ results) =
      IsBodyLeast before pattern matched body found
      × AreBodiesLeast (pattern ∷ before) matched rest results
  AreBodiesLeast before matched branches results = ⊥

  -- the type of a side of a test, or none where its truth value is not tested
  abbrev pub IsSideLeast : (tested : Set) (value : Thing) → Expr → Option Typ → Type 0
  IsSideLeast tested value e None = tested value → ⊥
  IsSideLeast tested value e (Some r) = tested value × IsLeast scope types e r

  -- The type of what one more argument gives, or one more operator, where what stands before has
  -- the type `self`: it is within what they give for any wider type
  abbrev pub IsArgumentLeast : (self : Typ) → Expr → (result : Typ) → Type 0
  IsArgumentLeast self e result = (wider s r : Typ) → In self ⊆ In wider → IsType s
      → Has scope types e s → AllMapInto (In wider) (In s) (In r) → In result ⊆ In r

  abbrev pub IsTailLeast : (self : Typ) → Tail → (result : Typ) → Type 0
  IsTailLeast self tail result = (wider r : Typ) → IsType wider → In self ⊆ In wider
      → TailHas scope types wider tail r → In result ⊆ In r

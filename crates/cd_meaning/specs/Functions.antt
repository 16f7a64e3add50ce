-- Functions of the model of types, applied to elements.
use Rattle.std.specs.Prelude.{◌≡◌, ◌⊎◌}
use Rattle.cd_model.specs.Thing.{Thing, Function, Pairs, NoPair, Maps, Fails, IsElement}
use Rattle.cd_meaning.specs.Sets.{Set}

-- a function maps the one to the other, and it fails at the one
abbrev pub HasPair : Pairs → (from to : Thing) → Type 0
HasPair NoPair from to = ⊥
HasPair (Maps one other rest) from to = ((one ≡ from) × (other ≡ to)) ⊎ HasPair rest from to
HasPair (Fails one rest) from to = HasPair rest from to

abbrev pub FailsAt : Pairs → (from : Thing) → Type 0
FailsAt NoPair from = ⊥
FailsAt (Maps one other rest) from = FailsAt rest from
FailsAt (Fails one rest) from = (one ≡ from) ⊎ FailsAt rest from

-- a function maps the one set into the other: at no argument in the one it fails, and each result
-- for such an argument is in the other
pub record MapsInto (pairs : Pairs) (arguments results : Set) : Type 0 where
  pub total : (from : Thing) → FailsAt pairs from → arguments from → ⊥
  pub into : (from to : Thing) → HasPair pairs from to → arguments from → results to

abbrev pub IsFunction : Thing → Type 0
IsFunction (Function pairs) = Unit {0}
IsFunction d = ⊥

-- of the functions in a set
module _ (functions : Set) where
  abbrev pub HasFunction : Pairs → Type 0
  HasFunction pairs = IsElement (Function pairs) × functions (Function pairs)

  -- one of them has this result for an argument in the other set
  abbrev pub IsGiven : (arguments : Set) → Set
  IsGiven arguments to = (pairs : Pairs) × (from : Thing) × HasFunction pairs
      × HasPair pairs from to × arguments from

  -- one of them fails at this
  abbrev pub IsOutsideDomain : Set
  IsOutsideDomain from = (pairs : Pairs) × HasFunction pairs × FailsAt pairs from

  -- they are functions alone, and each of them maps the one set into the other
  pub record AllMapInto (arguments results : Set) : Type 0 where
    pub functions_alone : (e : Thing) → IsElement e → functions e → IsFunction e
    pub into : (pairs : Pairs) → HasFunction pairs → MapsInto pairs arguments results

-- Types that are kept for the matches of a program, so that all that comes to a match is within one
-- of them.
use Rattle.std.specs.Prelude.{◌≡◌, List}
use Rattle.cd_syntax.specs.TypeTree.{Tree}
use Rattle.cd_model.specs.AllOf.{AnyOf}
use Rattle.cd_meaning.specs.Sets.{Set, ◌⊆◌}
use Rattle.cd_typing.specs.Typ.{Typ, In}

-- a match, which is known by its patterns, and a type that is kept for it
pub record KeptSite : Type 0 where
  pub patterns : List Tree
  pub matched : Typ

-- a match may be of anything, or only of what is kept for it
pub data Kept : Type 0 where
  Anything : Kept
  Only : List KeptSite → Kept

-- one of the types that are kept for the match of these patterns holds all of the set
abbrev pub IsKept : List KeptSite → (patterns : List Tree) → (matched : Set) → Type 0
IsKept sites patterns matched =
    AnyOf (λ site. (site.patterns ≡ patterns) × (matched ⊆ In site.matched)) sites

-- what is asked of a match of the set: this condition, and that the set is kept
abbrev pub Matches : Kept → (patterns : List Tree) → (matched : Set) → (condition : Type 0)
    → Type 0
Matches Anything patterns matched condition = condition
Matches (Only sites) patterns matched condition = IsKept sites patterns matched × condition

-- What a match asks of a set, and what is expected of a value in it: each pattern of the match may come to it.
use Rattle.std.proofs.Common.{◌≡◌, List, [], ◌∷◌, inl, inr, refl, sym, subst}
use Rattle.cd_syntax.specs.TypeTree.{Tree}
use Rattle.cd_model.specs.AllOf.{AllOf, AnyOf}
use Rattle.cd_model.specs.Interfaces.{Interfaces}
use Rattle.cd_model.specs.Thing.{Thing}
use Rattle.cd_model.proofs.Ones.{each_weaker, each_of_all}
use Rattle.cd_meaning.specs.Sets.{Set}
use Rattle.cd_typing.specs.Kept.{KeptSite, Kept, Anything, Only, IsKept, Matches}
use Rattle.cd_typing.specs.Typ.{Typ, In, IsType}
use Rattle.cd_safety.specs.ComesWithin.{KeepsTypes, IsExpected}
use Rattle.cd_safety.specs.ValueIn.{ValueIn, IsTypedValue}
use Rattle.cd_safety.proofs.ValuesWithin.{value_within}

-- the condition of a match
pub condition_of : (kept : Kept) (patterns : List Tree) (matched : Set) (condition : Type 0) → Matches kept patterns matched condition
    → condition
condition_of Anything patterns matched condition h = h
condition_of (Only sites) patterns matched condition h = h.1

-- each of a list is one of it
each_is_one : (patterns : List Tree) → AllOf (λ pattern. AnyOf (λ one. one ≡ pattern) patterns) patterns
each_is_one [] = tt
each_is_one (pattern ∷ rest) = (
  inl refl,
  each_weaker (λ is. AnyOf (λ one. one ≡ is) rest) (λ is. AnyOf (λ one. one ≡ is) (pattern ∷ rest)) (λ is later. inr later) rest
      (each_is_one rest),
)

module _ (interfaces : Interfaces) (s : Typ) (s_is : IsType s) (v : Thing) (typed : IsTypedValue interfaces v)
    (inside : ValueIn interfaces s v) where
  expected_at : (sites : List KeptSite) → AllOf (λ site. IsType site.matched) sites → (patterns : List Tree) → IsKept sites patterns (In s)
      → (pattern : Tree) → AnyOf (λ one. one ≡ pattern) patterns → IsExpected interfaces (Only sites) pattern v
  expected_at [] are patterns none pattern is = absurd none
  expected_at (site ∷ sites) are patterns (inl here) pattern is = inl (
    subst (λ (all : List Tree). AnyOf (λ one. one ≡ pattern) all) (sym here.0) is,
    value_within interfaces v typed s site.matched s_is are.0 here.1 inside,
  )
  expected_at (site ∷ sites) are patterns (inr later) pattern is = inr (expected_at sites are.1 patterns later pattern is)

  -- a value in a set that is kept for a match may come to each of its patterns
  pub all_expected : (kept : Kept) → KeepsTypes kept → (patterns : List Tree) (condition : Type 0) → Matches kept patterns (In s) condition
      → AllOf (λ pattern. IsExpected interfaces kept pattern v) patterns
  all_expected Anything keeps patterns condition h =
      each_of_all (λ (pattern : Tree). IsExpected interfaces Anything pattern v) (λ pattern. tt) patterns
  all_expected (Only sites) keeps patterns condition h =
      each_weaker (λ pattern. AnyOf (λ one. one ≡ pattern) patterns) (λ pattern. IsExpected interfaces (Only sites) pattern v)
      (expected_at sites keeps patterns h.0) patterns (each_is_one patterns)

-- How many trees of a chain are on a side of a `\`.
use Rattle.std.proofs.Common.{◌≡◌, ℕ, zero, suc, ◌+◌, ◌-◌, ◌<◌, ◌≤◌, Bool, true, false, not, ◌||◌, List, [], ◌∷◌, map}
use Rattle.std.proofs.Common.{length, get_or, drop, refl, sym, ap, subst, ◌∙◌, if◌then◌else◌, arith}
use Rattle.std.proofs.lemmas.Bool.{true≢false}
use Rattle.cd_syntax.specs.TypeTree.{Tree, Signs, NoSign, ASign, signs_of}
use Rattle.cd_syntax.specs.PlainTree.{plain_signed}
use Rattle.cd_syntax.specs.declared.type_tree.SignedTree.{SignedTree as CodeSigned}
use Rattle.cd_variables.specs.Occurrences.{takes_away}
use Rattle.cd_variables.specs.FindingVariables.{sides_in}
use Rattle.cd_resolve.proofs.Views.{at_item}

-- where no tree is taken away, none is on a side
pub no_sides : (signs : Signs) → takes_away signs ≡ false → sides_in signs ≡ 0
no_sides NoSign none = refl
no_sides (ASign kept t rest) none = ap (λ b. if b then sides_in rest + 1 else 0) none

pub some_sides : (signs : Signs) → takes_away signs ≡ true → 0 < sides_in signs
some_sides NoSign some = absurd (true≢false (sym some))
some_sides (ASign kept t rest) some =
    let e = ap (λ b. if b then sides_in rest + 1 else 0) some in omega (arith, e)

-- and so the number says whether one is taken away
pub sides_left : (signs : Signs) → 0 < sides_in signs → takes_away signs ≡ true
sides_left signs some = by_test (takes_away signs) refl where
  by_test : (b : Bool) → takes_away signs ≡ b → b ≡ true
  by_test true is = refl
  by_test false is = absurd (omega (arith, no_sides signs is))

pub none_left : (signs : Signs) → sides_in signs ≡ 0 → takes_away signs ≡ false
none_left signs none = by_test (takes_away signs) refl where
  by_test : (b : Bool) → takes_away signs ≡ b → b ≡ false
  by_test true is = absurd (omega (arith, some_sides signs is))
  by_test false is = refl

-- of a tree that is on a side, one less is left after it
pub one_less : (kept : Bool) (t : Tree) (rest : Signs) → 0 < sides_in (ASign kept t rest)
    → sides_in (ASign kept t rest) - 1 ≡ sides_in rest
one_less kept t rest some =
    let e = ap (λ b. if b then sides_in rest + 1 else 0) (sides_left (ASign kept t rest) some) in
    omega (arith, e)

pub later_none : (kept : Bool) (t : Tree) (rest : Signs) → sides_in (ASign kept t rest) ≡ 0 → sides_in rest ≡ 0
later_none kept t rest none =
    no_sides rest (by_test kept (takes_away rest) (none_left (ASign kept t rest) none)) where
      by_test : (b c : Bool) → (not b || c) ≡ false → c ≡ false
      by_test true c is = is
      by_test false c is = absurd (true≢false is)

-- the tree before this place is taken away
IsTaken : List CodeSigned → ℕ → Type 0
IsTaken items last = (one : CodeSigned) × (last < length items) × (one ≡ get_or items last one)
    × ((plain_signed one).kept ≡ false)

-- all up to the last that is taken away are on a side
counted : (items : List CodeSigned) (count : ℕ)
    → takes_away (signs_of (map plain_signed (drop count items))) ≡ false
    → ((last : ℕ) → suc last ≡ count → IsTaken items last)
    → sides_in (signs_of (map plain_signed items)) ≡ count
unfolding IsTaken
counted items zero none last = no_sides (signs_of (map plain_signed items)) none
counted [] (suc count) none last = let within = (last count refl).1 in absurd (omega (arith, within))
counted (first ∷ rest) (suc zero) none last =
    let taken = ap (λ one. (plain_signed one).kept) (sym (last zero refl).2) ∙ (last zero refl).3 in
    let e = ap (λ b. if not b || takes_away (signs_of (map plain_signed rest))
    then sides_in (signs_of (map plain_signed rest)) + 1 else 0) taken in
    let f = no_sides (signs_of (map plain_signed rest)) none in omega (arith, e, f)
counted (first ∷ rest) (suc (suc count)) none last =
    let on = counted rest (suc count) none (λ before is.
    let within = (last (suc before) (ap suc is)).1 in (
      (last (suc before) (ap suc is)).0,
      omega (arith, within),
      (last (suc before) (ap suc is)).2,
      (last (suc before) (ap suc is)).3,
    )) in
    let some = sides_left (signs_of (map plain_signed rest)) (omega (arith, on)) in
    by_test (plain_signed first).kept (takes_away (signs_of (map plain_signed rest))) some on where
      by_test : (b c : Bool) → c ≡ true → sides_in (signs_of (map plain_signed rest)) ≡ suc count
          → (if not b || c then sides_in (signs_of (map plain_signed rest)) + 1 else 0) ≡ suc (suc count)
      by_test b false is on = absurd (true≢false (sym is))
      by_test true true is on = omega (arith, on)
      by_test false true is on = omega (arith, on)

pub sides_counted : (items : List CodeSigned) (count : ℕ) (one : CodeSigned) → 0 < count → count ≤ length items
    → one ≡ get_or items (count - 1) one → (plain_signed one).kept ≡ false
    → takes_away (signs_of (map plain_signed (drop count items))) ≡ false
    → sides_in (signs_of (map plain_signed items)) ≡ count
unfolding IsTaken
sides_counted items count one some within is out none = counted items count none (λ last e.
    let same : count - 1 ≡ last = omega (arith, e) in
    (one, omega (arith, e), subst (λ place. one ≡ get_or items place one) same is, out))

pub none_counted : (items : List CodeSigned) (count : ℕ) → count ≤ 0
    → takes_away (signs_of (map plain_signed (drop count items))) ≡ false
    → sides_in (signs_of (map plain_signed items)) ≡ count
none_counted items count is none = counted items count none (λ last e. absurd (omega (arith, e)))

-- one tree more at the front, which is kept
pub none_before : (items : List CodeSigned) (last : ℕ) (one : CodeSigned) → one ≡ get_or items last one
    → last < length items → (plain_signed one).kept ≡ true
    → takes_away (signs_of (map plain_signed (drop (last + 1) items))) ≡ false
    → takes_away (signs_of (map plain_signed (drop last items))) ≡ false
none_before items last one is within kept none =
    at_item (λ left. takes_away (signs_of (map plain_signed left))) items last one is within
    ∙ ap (λ b. not b || takes_away (signs_of (map plain_signed (drop (last + 1) items)))) kept ∙ none

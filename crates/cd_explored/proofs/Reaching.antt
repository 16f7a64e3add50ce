-- Numbers that are marked when they are added, and what is reached by them.
use Rattle.std.proofs.Common.{◌≡◌, ℕ, zero, suc, ◌+◌, ◌<◌, List, [], ◌∷◌, ◌++◌, ◌⊎◌, inl, inr, length, take}
use Rattle.std.proofs.Common.{Bool, true, false, Option, Some, None, refl, ap, sym, subst, ◌∙◌, append_assoc, set}
use Rattle.std.proofs.Common.{replicate, get_or, true≢false, arith}
use Rattle.std.proofs.lemmas.List.Elements.{Contains-append_left, Contains-push}
use Rattle.std.proofs.lemmas.List.Elements.{All-nil, All-push, All-append, All-weaker}
use Rattle.std.proofs.lemmas.List.Elements.{All-contains}
use Rattle.std.proofs.lemmas.Option.{none-some, same_Some}
use Rattle.std.proofs.lemmas.Bool.{cases_eq}
use Rattle.std.specs.List.{slice_get, All, Contains}
use Rattle.std.specs.Option.{unwrap_or}
use Rattle.cd_explored.proofs.Listed.{got_before, one_more}
use Rattle.cd_explored.specs.declared.step.Step.{Step}
use Rattle.cd_explored.specs.Inner.Reached.{Rows, AreMarked, Adds, led_to, IsLedBy, IsLedTo}
use Rattle.cd_explored.specs.Inner.Reached.{ReachesBy, itself, further}

-- a number that is marked is there
pub is_there : (marks : List Bool) (all : List ℕ) (number : ℕ) → AreMarked marks all
    → unwrap_or (slice_get marks number) false ≡ true → Contains all number
is_there marks all number marked is = marked number (found (slice_get marks number) is)
  where
    found : (mark : Option Bool) → unwrap_or mark false ≡ true → mark ≡ Some true
    found None none = absurd (true≢false (sym none))
    found (Some mark) same = ap Some same

-- nothing is marked at first
no_mark : (count number : ℕ) → slice_get (replicate count false) number ≡ Some true → ⊥
no_mark zero number is = none-some true is
no_mark (suc count) zero is = true≢false (sym (same_Some false true is))
no_mark (suc count) (suc number) is = no_mark count number is

pub none_marked : (count : ℕ) → AreMarked (replicate count false) []
none_marked count number is = absurd (no_mark count number is)

read_set : (marks : List Bool) (number other : ℕ) → slice_get (set marks number true) other ≡ Some true
    → (number ≡ other) ⊎ (slice_get marks other ≡ Some true)
read_set [] number other is = inr is
read_set (mark ∷ marks) zero zero is = inl refl
read_set (mark ∷ marks) zero (suc other) is = inr is
read_set (mark ∷ marks) (suc number) zero is = inr is
read_set (mark ∷ marks) (suc number) (suc other) is = elim (read_set marks number other is) [
  | inl same ↦ inl (ap suc same)
  | inr before ↦ inr before
]

-- one more is marked and added
pub marked_more : (marks : List Bool) (all : List ℕ) (number : ℕ) → AreMarked marks all
    → AreMarked (set marks number true) (all ++ number ∷ [])
marked_more marks all number marked other is = elim (read_set marks number other is) [
  | inl same ↦ subst (Contains (all ++ number ∷ [])) same (Contains-push all number)
  | inr before ↦ Contains-append_left all (number ∷ []) other (marked other before)
]

abbrev pub AddsOne : ℕ → (old new : List ℕ) → Type 0
AddsOne number old new = (new ≡ old) ⊎ (new ≡ old ++ number ∷ [])

pub still_there : (number other : ℕ) (old new : List ℕ) → AddsOne number old new
    → Contains old other → Contains new other
still_there number other old new (inl same) has = subst (λ (all : List ℕ). Contains all other) (sym same) has
still_there number other old new (inr one) has =
    subst (λ (all : List ℕ). Contains all other) (sym one) (Contains-append_left old (number ∷ []) other has)

pub adds_more : (fact : ℕ → Type 0) (first old new : List ℕ) (number : ℕ) → Adds fact first old → fact number
    → AddsOne number old new → Adds fact first new
adds_more fact first old new number (more, are, each) is (inl same) = (more, same ∙ are, each)
adds_more fact first old new number (more, are, each) is (inr one) = (
  more ++ number ∷ [],
  one ∙ ap (λ all. all ++ number ∷ []) are ∙ append_assoc first more (number ∷ []),
  All-push fact more number each is,
)

pub sound_first : (fact : ℕ → Type 0) (number : ℕ) (old new : List ℕ) → old ≡ [] → fact number
    → AddsOne number old new → All fact new
sound_first fact number old new none is (inl same) = subst (All fact) (sym (same ∙ none)) (All-nil fact)
sound_first fact number old new none is (inr one) = subst (All fact)
    (sym (one ∙ ap (λ all. all ++ number ∷ []) none)) (All-push fact [] number (All-nil fact) is)

module _ (variable : ℕ) where
  -- what the first steps of a row lead to
  led_more : (row : List Step) (k : ℕ) (step : Step) → k < length row → step ≡ get_or row k step
      → (next : ℕ) → IsLedBy variable (take (k + 1) row) next
      → IsLedBy variable (take k row) next ⊎ (led_to variable step ≡ Some next)
  led_more row k step below is next (one, has, leads) =
      elim (one_more row k step below is one has) [
        | inl before ↦ inl (one, before, leads)
        | inr same ↦ inr (ap (led_to variable) same ∙ leads)
      ]

  pub whole_led : (row : List Step) (k : ℕ) (step : Step) → k < length row → step ≡ get_or row k step
      → (next : ℕ) → led_to variable step ≡ Some next → (old new : List ℕ) → AddsOne next old new
      → Contains new next → ((n : ℕ) → IsLedBy variable (take k row) n → Contains old n) → (n : ℕ)
      → IsLedBy variable (take (k + 1) row) n → Contains new n
  whole_led row k step below is next leads old new adds there whole n led =
      elim (led_more row k step below is n led) [
        | inl before ↦ still_there next n old new adds (whole n before)
        | inr same ↦ subst (Contains new) (same_Some next n (sym leads ∙ same)) there
      ]

  pub whole_unled : (row : List Step) (k : ℕ) (step : Step) → k < length row
      → step ≡ get_or row k step → led_to variable step ≡ None → (all : List ℕ)
      → ((n : ℕ) → IsLedBy variable (take k row) n → Contains all n) → (n : ℕ)
      → IsLedBy variable (take (k + 1) row) n → Contains all n
  whole_unled row k step below is leads all whole n led =
      elim (led_more row k step below is n led) [
        | inl before ↦ whole n before
        | inr same ↦ absurd (none-some n (sym leads ∙ same))
      ]

  module _ (rows : Rows) where
    pub reaches_then : (from number next : ℕ) → ReachesBy rows variable from number
        → IsLedTo rows variable number next → ReachesBy rows variable from next
    reaches_then _ number next (itself from) led = further number next next led (itself next)
    reaches_then _ number next (further from over last one rest) led =
        further from over next one (reaches_then over last next rest led)

    -- what all that is led to is among is whole
    pub reached_among : (all : List ℕ)
        → ((number next : ℕ) → Contains all number → IsLedTo rows variable number next → Contains all next)
        → (from last : ℕ) → Contains all from → ReachesBy rows variable from last → Contains all last
    reached_among all closed _ last has (itself from) = has
    reached_among all closed _ last has (further from next end led rest) =
        reached_among all closed next end (closed from next has led) rest

    -- what a number that is there leads to is added
    pub sound_more : (from number : ℕ) (old new : List ℕ) → All (ReachesBy rows variable from) old
        → Contains old number → Adds (IsLedTo rows variable number) old new
        → All (ReachesBy rows variable from) new
    sound_more from number old new sound has (more, are, each) =
        subst (All (ReachesBy rows variable from)) (sym are)
        (All-append (ReachesBy rows variable from) old more sound
        (All-weaker (IsLedTo rows variable number) (ReachesBy rows variable from)
        (λ next led. reaches_then from number next
        (All-contains (ReachesBy rows variable from) old number sound has) led) more each))

    -- what the first ones lead to, with one more
    pub whole_more : (old new : List ℕ) (done : ℕ) (at : ℕ) → done < length old
        → slice_get old done ≡ Some at → Adds (IsLedTo rows variable at) old new
        → ((k number next : ℕ) → k < done → slice_get old k ≡ Some number
        → IsLedTo rows variable number next → Contains old next)
        → ((next : ℕ) → IsLedTo rows variable at next → Contains new next)
        → (k number next : ℕ) → k < done + 1 → slice_get new k ≡ Some number
        → IsLedTo rows variable number next → Contains new next
    whole_more old new done at below here (more, are, each) before now k number next within there led =
        let in_old = subst (λ (all : List ℕ). slice_get all k ≡ Some number) are there in
        let was = got_before old more k number (omega (arith, below, within)) in_old in
        elim (cases_eq k done) [
          | inl same ↦ now next (subst (λ (n : ℕ). IsLedTo rows variable n next)
              (same_Some number at (sym was ∙ ap (slice_get old) same ∙ here)) led)
          | inr differs ↦ subst (λ (all : List ℕ). Contains all next) (sym are)
              (Contains-append_left old more next (before k number next (omega (arith, within, differs)) was led))
        ]

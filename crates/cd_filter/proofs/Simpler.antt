-- What is simpler holds the same things, and names no other nodes.
use Rattle.std.proofs.Common.{◌≡◌, ℕ, Bool, true, false, ◌||◌, List, [], ◌∷◌, ◌++◌, map, inl, inr}
use Rattle.std.proofs.Common.{refl, sym, ap, subst, ◌∙◌, ◌≤◌, ◌<◌, length, arith}
use Rattle.std.specs.List.{list_any, slice_index}
use Rattle.std.proofs.lemmas.Bool.{true≢false}
use Rattle.cd_sets.specs.declared.node_id.NodeId.{NodeId}
use Rattle.cd_model.specs.Formula as formula
use Rattle.cd_model.specs.Formula.{Formula, Formulas, NoFormula, AFormula, formulas_of}
use Rattle.cd_model.specs.Formula.{at_formula, holds, each_holds, one_holds, IsFormula, AreFormulas}
use Rattle.cd_model.specs.Types.{Reader}
use Rattle.cd_filter.specs.Simpler.{is_everything, listed, conjuncts, IsSimpler, as_it_is}
use Rattle.cd_filter.specs.Simpler.{meet_before_all, meet_after_all, meet_of_meets}
use Rattle.cd_filter.specs.Simpler.{union_with_all, union_of_one}

-- a formula of everything is that one
everything_is : (f : Formula) → is_everything f ≡ true → f ≡ formula.Everything
everything_is formula.Everything is = refl
everything_is formula.Nothing is = absurd (true≢false (sym is))
everything_is (formula.Ints set) is = absurd (true≢false (sym is))
everything_is (formula.Chars set) is = absurd (true≢false (sym is))
everything_is (formula.Atoms set) is = absurd (true≢false (sym is))
everything_is (formula.Pair p q) is = absurd (true≢false (sym is))
everything_is (formula.Xml p q r) is = absurd (true≢false (sym is))
everything_is (formula.Record named rest) is = absurd (true≢false (sym is))
everything_is (formula.Arrow p q) is = absurd (true≢false (sym is))
everything_is (formula.And formulas) is = absurd (true≢false (sym is))
everything_is (formula.Or formulas) is = absurd (true≢false (sym is))
everything_is (formula.Not f) is = absurd (true≢false (sym is))

-- what is held
module _ (read : Reader NodeId) where
  abbrev Holds : Formula → Bool → Type 0
  Holds = holds (at_formula read)

  abbrev HoldsEach : List Formula → Type 0
  HoldsEach formulas = each_holds (at_formula read) (formulas_of formulas) true

  abbrev FailsOne : List Formula → Type 0
  FailsOne formulas = one_holds (at_formula read) (formulas_of formulas) false

  before_all : (f : Formula) (answer : Bool)
      → Holds (formula.And (formulas_of (f ∷ formula.Everything ∷ []))) answer → Holds f answer
  before_all f true held = held.0
  before_all f false (inl held) = held
  before_all f false (inr (inl held)) = absurd (true≢false (sym held))
  before_all f false (inr (inr held)) = absurd held

  after_all : (f : Formula) (answer : Bool)
      → Holds (formula.And (formulas_of (formula.Everything ∷ f ∷ []))) answer → Holds f answer
  after_all f true held = held.1.0
  after_all f false (inl held) = absurd (true≢false (sym held))
  after_all f false (inr (inl held)) = held
  after_all f false (inr (inr held)) = absurd held

  each_of_two : (one two : List Formula) → HoldsEach one → HoldsEach two → HoldsEach (one ++ two)
  each_of_two [] two here there = there
  each_of_two (f ∷ one) two here there = (here.0, each_of_two one two here.1 there)

  in_first : (one two : List Formula) → FailsOne one → FailsOne (one ++ two)
  in_first [] two fails = absurd fails
  in_first (f ∷ one) two (inl here) = inl here
  in_first (f ∷ one) two (inr later) = inr (in_first one two later)

  in_second : (one two : List Formula) → FailsOne two → FailsOne (one ++ two)
  in_second [] two fails = fails
  in_second (f ∷ one) two fails = inr (in_second one two fails)

  each_listed : (formulas : Formulas) → each_holds (at_formula read) formulas true
      → HoldsEach (listed formulas)
  each_listed NoFormula held = tt
  each_listed (AFormula f rest) held = (held.0, each_listed rest held.1)

  one_listed : (formulas : Formulas) → one_holds (at_formula read) formulas false
      → FailsOne (listed formulas)
  one_listed NoFormula fails = absurd fails
  one_listed (AFormula f rest) (inl here) = inl here
  one_listed (AFormula f rest) (inr later) = inr (one_listed rest later)

  each_conjunct : (f : Formula) → Holds f true → HoldsEach (conjuncts f)
  each_conjunct (formula.And formulas) held = each_listed formulas held
  each_conjunct _ held = (held, tt)

  one_conjunct : (f : Formula) → Holds f false → FailsOne (conjuncts f)
  one_conjunct (formula.And formulas) fails = one_listed formulas fails
  one_conjunct _ fails = inl fails

  of_meets : (f g : Formula) (answer : Bool)
      → Holds (formula.And (formulas_of (f ∷ g ∷ []))) answer
      → Holds (formula.And (formulas_of (conjuncts f ++ conjuncts g))) answer
  of_meets f g true held = each_of_two (conjuncts f) (conjuncts g) (each_conjunct f held.0)
      (each_conjunct g held.1.0)
  of_meets f g false (inl fails) = in_first (conjuncts f) (conjuncts g) (one_conjunct f fails)
  of_meets f g false (inr (inl fails)) =
      in_second (conjuncts f) (conjuncts g) (one_conjunct g fails)
  of_meets f g false (inr (inr held)) = absurd held

  of_one : (f : Formula) (answer : Bool)
      → Holds (formula.Or (formulas_of (f ∷ []))) answer → Holds f answer
  of_one f true (inl held) = held
  of_one f true (inr held) = absurd held
  of_one f false held = held.0

  not_outside : (formulas : List Formula) → list_any is_everything formulas ≡ true
      → Holds (formula.Or (formulas_of formulas)) false → ⊥
  not_outside [] among held = true≢false (sym among)
  not_outside (f ∷ formulas) among held = by_test (is_everything f) refl among
      (λ later. not_outside formulas later held.1)
    where
      by_test : (b : Bool) → is_everything f ≡ b
          → (b || list_any is_everything formulas) ≡ true
          → (list_any is_everything formulas ≡ true → ⊥) → ⊥
      by_test true is here further = true≢false
          (sym (subst (λ g. Holds g false) (everything_is f is) held.0))
      by_test false is later further = further later

  with_all : (formulas : List Formula) → list_any is_everything formulas ≡ true → (answer : Bool)
      → Holds (formula.Or (formulas_of formulas)) answer → Holds formula.Everything answer
  with_all formulas among true held = refl
  with_all formulas among false held = absurd (not_outside formulas among held)

  pub alike : (f g : Formula) → IsSimpler f g → (answer : Bool) → Holds f answer → Holds g answer
  alike _ _ (as_it_is f) answer held = held
  alike _ _ (meet_before_all f) answer held = before_all f answer held
  alike _ _ (meet_after_all f) answer held = after_all f answer held
  alike _ _ (meet_of_meets f g) answer held = of_meets f g answer held
  alike _ _ (union_with_all formulas among) answer held = with_all formulas among answer held
  alike _ _ (union_of_one f) answer held = of_one f answer held

-- what nodes are named
module _ (nodes : ℕ) where
  abbrev AreSound : List Formula → Type 0
  AreSound formulas = AreFormulas nodes (formulas_of formulas)

  sound_of_two : (one two : List Formula) → AreSound one → AreSound two → AreSound (one ++ two)
  sound_of_two [] two here there = there
  sound_of_two (f ∷ one) two here there = (here.0, sound_of_two one two here.1 there)

  sound_listed : (formulas : Formulas) → AreFormulas nodes formulas → AreSound (listed formulas)
  sound_listed NoFormula sound = tt
  sound_listed (AFormula f rest) sound = (sound.0, sound_listed rest sound.1)

  sound_conjuncts : (f : Formula) → IsFormula nodes f → AreSound (conjuncts f)
  sound_conjuncts (formula.And formulas) sound = sound_listed formulas sound
  sound_conjuncts _ sound = (sound, tt)

pub simpler_sound : (nodes : ℕ) (f g : Formula) → IsSimpler f g → IsFormula nodes f
    → IsFormula nodes g
simpler_sound nodes _ _ (as_it_is f) sound = sound
simpler_sound nodes _ _ (meet_before_all f) sound = sound.0
simpler_sound nodes _ _ (meet_after_all f) sound = sound.1.0
simpler_sound nodes _ _ (meet_of_meets f g) sound = sound_of_two nodes (conjuncts f) (conjuncts g)
    (sound_conjuncts nodes f sound.0) (sound_conjuncts nodes g sound.1.0)
simpler_sound nodes _ _ (union_with_all formulas among) sound = tt
simpler_sound nodes _ _ (union_of_one f) sound = sound.0

-- a formula that is equal to a simpler one
pub same_form : (f g : Formula) → g ≡ f → IsSimpler f g
same_form f g same = subst (IsSimpler f) (sym same) (as_it_is f)

-- by tests of the parts
pub first_is_all : (f g h : Formula) → is_everything f ≡ true → h ≡ g
    → IsSimpler (formula.And (formulas_of (f ∷ g ∷ []))) h
first_is_all f g h is same = subst
    (λ one. IsSimpler (formula.And (formulas_of (one ∷ g ∷ []))) h) (sym (everything_is f is))
    (subst (IsSimpler (formula.And (formulas_of (formula.Everything ∷ g ∷ [])))) (sym same)
    (meet_after_all g))

pub second_is_all : (f g h : Formula) → is_everything g ≡ true → h ≡ f
    → IsSimpler (formula.And (formulas_of (f ∷ g ∷ []))) h
second_is_all f g h is same = subst
    (λ other. IsSimpler (formula.And (formulas_of (f ∷ other ∷ []))) h)
    (sym (everything_is g is))
    (subst (IsSimpler (formula.And (formulas_of (f ∷ formula.Everything ∷ [])))) (sym same)
    (meet_before_all f))

-- by the conjuncts of both
pub is_meet_of : (f g : Formula) (first all : List Formula) (h : Formula) → first ≡ conjuncts f
    → all ≡ first ++ conjuncts g → h ≡ formula.And (formulas_of all)
    → IsSimpler (formula.And (formulas_of (f ∷ g ∷ []))) h
is_meet_of f g first all h of_first of_all same =
    subst (IsSimpler (formula.And (formulas_of (f ∷ g ∷ []))))
    (sym (same ∙ ap (λ list. formula.And (formulas_of list))
    (of_all ∙ ap (λ list. list ++ conjuncts g) of_first)))
    (meet_of_meets f g)

-- of formulas by number
module _ (formula_of : ℕ → Formula) where
  any_everything : (numbers : List ℕ) → list_any is_everything (map formula_of numbers)
      ≡ list_any (λ number. is_everything (formula_of number)) numbers
  any_everything [] = refl
  any_everything (number ∷ numbers) =
      ap (λ b. is_everything (formula_of number) || b) (any_everything numbers)

  pub one_is_all : (numbers : List ℕ) (h : Formula)
      → list_any (λ number. is_everything (formula_of number)) numbers ≡ true
      → h ≡ formula.Everything
      → IsSimpler (formula.Or (formulas_of (map formula_of numbers))) h
  one_is_all numbers h among same = subst
      (IsSimpler (formula.Or (formulas_of (map formula_of numbers)))) (sym same)
      (union_with_all (map formula_of numbers) (any_everything numbers ∙ among))

  pub is_only : (numbers : List ℕ) (h : Formula) → 1 ≤ length numbers → length numbers < 2
      → h ≡ formula_of (slice_index numbers 0)
      → IsSimpler (formula.Or (formulas_of (map formula_of numbers))) h
  is_only [] h some few same = absurd (omega (arith, some))
  is_only (number ∷ []) h some few same =
      subst (IsSimpler (formula.Or (formulas_of (formula_of number ∷ [])))) (sym same)
      (union_of_one (formula_of number))
  is_only (number ∷ other ∷ numbers) h some few same = absurd (omega (arith, few))

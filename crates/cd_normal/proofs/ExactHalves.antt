-- What sets of formulas are when they are joined by halves.
use Rattle.std.proofs.Common.{◌≡◌, ℕ, zero, suc, ◌-◌, ◌<◌, ◌≤◌, true, false, ◌&&◌, ◌||◌, List, [], ◌∷◌}
use Rattle.std.proofs.Common.{take, drop, length, get_or, sym, subst, arith}
use Rattle.cd_model.specs.Formula.{Formula, formulas_of}
use Rattle.cd_rules.specs.BasicSets.{passes, all_pass, one_passes}
use Rattle.cd_normal.specs.declared.basic_sets.Basics.{Basics}
use Rattle.cd_normal.specs.HoldNothing.{HoldNothing}
use Rattle.cd_normal.specs.Inner.ExactSets.{Passing, AreExact, AreExactEach}
use Rattle.cd_normal.proofs.Lists.{from_place}
use Rattle.cd_normal.proofs.ExactSets.{exact_so, and_true, all_of_halves, one_of_halves}
use Rattle.cd_normal.proofs.Nothing.{nothing_left, or_false}

-- each half of the sets is exact by the half of the formulas
first_half : (half : ℕ) (formulas : List Formula) (sets : List Basics) → AreExactEach formulas sets
    → AreExactEach (take half formulas) (take half sets)
first_half zero formulas sets exact = tt
first_half (suc half) [] [] exact = tt
first_half (suc half) [] (one ∷ sets) exact = absurd exact
first_half (suc half) (formula ∷ formulas) [] exact = absurd exact
first_half (suc half) (formula ∷ formulas) (one ∷ sets) exact = (exact.0, first_half half formulas sets exact.1)

second_half : (half : ℕ) (formulas : List Formula) (sets : List Basics) → AreExactEach formulas sets
    → AreExactEach (drop half formulas) (drop half sets)
second_half zero formulas sets exact = exact
second_half (suc half) [] [] exact = tt
second_half (suc half) [] (one ∷ sets) exact = absurd exact
second_half (suc half) (formula ∷ formulas) [] exact = absurd exact
second_half (suc half) (formula ∷ formulas) (one ∷ sets) exact = second_half half formulas sets exact.1

-- of no sets and of one
pub each_of_none : (sets : List Basics) (formulas : List Formula) → length sets < 1 → AreExactEach formulas sets → (joined : Basics)
    → AreExact (λ test. true) joined → AreExact (λ test. all_pass test (formulas_of formulas)) joined
each_of_none [] [] none exact joined here = here
each_of_none [] (formula ∷ formulas) none exact joined here = absurd exact
each_of_none (one ∷ sets) formulas none exact joined here = absurd (omega (arith, none))

pub one_of_none : (sets : List Basics) (formulas : List Formula) → length sets < 1 → AreExactEach formulas sets → (joined : Basics)
    → AreExact (λ test. false) joined → AreExact (λ test. one_passes test (formulas_of formulas)) joined
one_of_none [] [] none exact joined here = here
one_of_none [] (formula ∷ formulas) none exact joined here = absurd exact
one_of_none (one ∷ sets) formulas none exact joined here = absurd (omega (arith, none))

pub each_of_only : (sets : List Basics) (formulas : List Formula) (only : Basics) → only ≡ get_or sets 0 only → 1 ≤ length sets
    → length sets ≤ 1 → AreExactEach formulas sets → AreExact (λ test. all_pass test (formulas_of formulas)) only
each_of_only [] formulas only is some most exact = absurd (omega (arith, some))
each_of_only (one ∷ sets) [] only is some most exact = absurd exact
each_of_only (one ∷ []) (formula ∷ []) only is some most exact =
    exact_so (λ test. passes test formula) (λ test. passes test formula && true) (λ test. and_true (passes test formula)) only
    (subst (AreExact (λ test. passes test formula)) (sym is) exact.0)
each_of_only (one ∷ []) (formula ∷ other ∷ formulas) only is some most exact = absurd exact.1
each_of_only (one ∷ two ∷ sets) (formula ∷ formulas) only is some most exact = absurd (omega (arith, most))

pub one_of_only : (sets : List Basics) (formulas : List Formula) (only : Basics) → only ≡ get_or sets 0 only → 1 ≤ length sets
    → length sets ≤ 1 → AreExactEach formulas sets → AreExact (λ test. one_passes test (formulas_of formulas)) only
one_of_only [] formulas only is some most exact = absurd (omega (arith, some))
one_of_only (one ∷ sets) [] only is some most exact = absurd exact
one_of_only (one ∷ []) (formula ∷ []) only is some most exact =
    exact_so (λ test. passes test formula) (λ test. passes test formula || false) (λ test. or_false (passes test formula)) only
    (subst (AreExact (λ test. passes test formula)) (sym is) exact.0)
one_of_only (one ∷ []) (formula ∷ other ∷ formulas) only is some most exact = absurd exact.1
one_of_only (one ∷ two ∷ sets) (formula ∷ formulas) only is some most exact = absurd (omega (arith, most))

module _ (half : ℕ) (sets : List Basics) (formulas : List Formula) (exact : AreExactEach formulas sets) (first second joined : Basics) where
  last : AreExactEach (drop half formulas) (take (length sets - half) (drop half sets))
  last = subst (AreExactEach (drop half formulas)) (sym (from_place sets half)) (second_half half formulas sets exact)

  -- what is in both halves is in all
  pub in_both_halves : ((formulas : List Formula) → AreExactEach formulas (take half sets) → AreExact (λ test. all_pass test (formulas_of formulas)) first)
      → ((formulas : List Formula) → AreExactEach formulas (take (length sets - half) (drop half sets)) → AreExact (λ test. all_pass test (formulas_of formulas)) second)
      → ((one two : Passing) → AreExact one first → AreExact two second → AreExact (λ test. one test && two test) joined)
      → AreExact (λ test. all_pass test (formulas_of formulas)) joined
  in_both_halves of_first of_second both = exact_so
      (λ test. all_pass test (formulas_of (take half formulas)) && all_pass test (formulas_of (drop half formulas)))
      (λ test. all_pass test (formulas_of formulas)) (λ test. all_of_halves test half formulas) joined
      (both (λ test. all_pass test (formulas_of (take half formulas))) (λ test. all_pass test (formulas_of (drop half formulas)))
      (of_first (take half formulas) (first_half half formulas sets exact))
      (of_second (drop half formulas) last))

  -- what is in one of the halves is in one of all
  pub in_one_half : ((formulas : List Formula) → AreExactEach formulas (take half sets) → AreExact (λ test. one_passes test (formulas_of formulas)) first)
      → ((formulas : List Formula) → AreExactEach formulas (take (length sets - half) (drop half sets)) → AreExact (λ test. one_passes test (formulas_of formulas)) second)
      → ((one two : Passing) → AreExact one first → AreExact two second → AreExact (λ test. one test || two test) joined)
      → AreExact (λ test. one_passes test (formulas_of formulas)) joined
  in_one_half of_first of_second either = exact_so
      (λ test. one_passes test (formulas_of (take half formulas)) || one_passes test (formulas_of (drop half formulas)))
      (λ test. one_passes test (formulas_of formulas)) (λ test. one_of_halves test half formulas) joined
      (either (λ test. one_passes test (formulas_of (take half formulas))) (λ test. one_passes test (formulas_of (drop half formulas)))
      (of_first (take half formulas) (first_half half formulas sets exact))
      (of_second (drop half formulas) last))

-- where the first half leaves nothing, all of them leave nothing
pub nothing_in_first : (half : ℕ) (sets : List Basics) (formulas : List Formula) → AreExactEach formulas sets → (first : Basics) → HoldNothing first
    → ((formulas : List Formula) → AreExactEach formulas (take half sets) → AreExact (λ test. all_pass test (formulas_of formulas)) first)
    → AreExact (λ test. all_pass test (formulas_of formulas)) first
nothing_in_first half sets formulas exact first nothing of_first = exact_so
    (λ test. all_pass test (formulas_of (take half formulas)) && all_pass test (formulas_of (drop half formulas)))
    (λ test. all_pass test (formulas_of formulas)) (λ test. all_of_halves test half formulas) first
    (nothing_left first nothing (λ test. all_pass test (formulas_of (take half formulas))) (λ test. all_pass test (formulas_of (drop half formulas)))
    (of_first (take half formulas) (first_half half formulas sets exact)))

-- Formulas that were all made solve the equations, in each graph that they are put after.
use Rattle.std.proofs.Common.{◌≡◌, ℕ, zero, suc, ◌+◌, ◌-◌, ◌<◌, ◌≤◌, Bool, true, false, List, [], ◌∷◌, ◌++◌, map}
use Rattle.std.proofs.Common.{length, Option, Some, None, refl, sym, ap, ap₂, subst, ◌∙◌, arith, inl, inr}
use Rattle.std.proofs.Common.{if◌then◌else◌}
use Rattle.std.specs.Prelude.{nat_le}
use Rattle.std.specs.List.{slice_get}
use Rattle.std.specs.Option.{unwrap_or, option_flatten}
use Rattle.std.proofs.lemmas.Bool.{leb-true, leb-false}
use Rattle.std.proofs.lemmas.List.{length-map}
use Rattle.std.proofs.lemmas.Option.{slice_get_within}
use Rattle.cd_sets.specs.declared.node_id.NodeId.{NodeId}
use Rattle.cd_model.specs.AllOf.{AllOf}
use Rattle.cd_model.specs.BuiltIns.{node}
use Rattle.cd_model.specs.Formula.{Graph, Formula, Nothing, IsFormula, IsGraph, formula_at}
use Rattle.cd_model.proofs.Ones.{each_weaker}
use Rattle.cd_model.proofs.FormulasAmongMore.{each_among_more}
use Rattle.cd_resolve.specs.Inner.Order.{IsOrder, ComeAfter}
use Rattle.cd_shared.specs.Equation.{Equation, Equations, Is, Same, And, Or}
use Rattle.cd_resolve.specs.Inner.Solves.{made, IsNode, IsEquation, AreEquations, Solves, AgreesWith}
use Rattle.cd_resolve.specs.Inner.Links.{numbers_under, links}
use Rattle.cd_resolve.specs.Inner.Filling.{at_once, left, so_far, filled, AreFilled}
use Rattle.cd_resolve.proofs.LinksRows.{found, found_at, links_length}
use Rattle.cd_resolve.proofs.Settling.{Under, made_same, all_settled, all_kept, filled_length}
use Rattle.cd_resolve.proofs.SoundFormulas.{FormulaIn, filled_are}

-- what is left leads where all does, since a formula leads nowhere
under_left : (first : ℕ) (equation : Option Equation)
    → numbers_under first (left equation) ≡ numbers_under first equation
under_left first None = refl
under_left first (Some (Is is)) = refl
under_left first (Some (Same id)) = refl
under_left first (Some (And signs)) = refl
under_left first (Some (Or ids)) = refl

links_left : (first : ℕ) (equations : Equations) → links first (map left equations) ≡ links first equations
links_left first [] = refl
links_left first (equation ∷ equations) = ap₂ (λ (row : List ℕ) (rows : List (List ℕ)). row ∷ rows)
    (under_left first equation) (links_left first equations)

-- an equation that is left was there
left_was : (equation : Option Equation) (is : Equation) → left equation ≡ Some is → equation ≡ Some is
left_was None is same = absurd cc
left_was (Some (Is formula)) is same = absurd cc
left_was (Some (Same id)) is same = same
left_was (Some (And signs)) is same = same
left_was (Some (Or ids)) is same = same

pub was_there : (equations : Equations) (number : ℕ) (is : Equation)
    → slice_get (map left equations) number ≡ Some (Some is) → slice_get equations number ≡ Some (Some is)
was_there [] number is at = absurd cc
was_there (equation ∷ equations) zero is at =
    let same : left equation ≡ Some is = cc in ap Some (left_was equation is same)
was_there (equation ∷ equations) (suc number) is at = was_there equations number is at

-- and one that is no formula is left
abbrev IsLeft : Equation → Type 0
IsLeft (Is formula) = ⊥
IsLeft equation = Unit {0}

left_of : (equation : Equation) → IsLeft equation → left (Some equation) ≡ Some equation
left_of (Is formula) is = absurd is
left_of (Same id) is = refl
left_of (And signs) is = refl
left_of (Or ids) is = refl

left_at : (equations : Equations) (number : ℕ) (equation : Equation) → slice_get equations number ≡ Some (Some equation)
    → slice_get (map left equations) number ≡ Some (left (Some equation))
left_at [] number equation at = absurd cc
left_at (one ∷ equations) zero equation at =
    let same : one ≡ Some equation = cc in ap (λ one. Some (left one)) same
left_at (one ∷ equations) (suc number) equation at = left_at equations number equation at

-- the formula that was given at once
once_at : (equations : Equations) (number : ℕ) (is : Formula) → slice_get equations number ≡ Some (Some (Is is))
    → formula_at (map at_once equations) (node number) ≡ is
once_at [] number is at = absurd cc
once_at (one ∷ equations) zero is at = let same : one ≡ Some (Is is) = cc in ap at_once same
once_at (one ∷ equations) (suc number) is at = once_at equations number is at

-- what is left of sound equations is sound
pub left_sound : (nodes first : ℕ) (equations : Equations) → AreEquations nodes first equations
    → AreEquations nodes first (map left equations)
left_sound nodes first equations sound = record {
  each = λ number is at. subst (λ (count : ℕ). IsEquation nodes first count is) (sym (length-map equations left))
      (sound.each number is (was_there equations number is at));
}

-- the formulas that equations give at once are those of a graph
once_is : (total : ℕ) (equation : Option Equation) → ((is : Equation) → equation ≡ Some is → FormulaIn total is)
    → IsFormula total (at_once equation)
once_is total None sound = tt
once_is total (Some (Is is)) sound = sound (Is is) refl
once_is total (Some (Same id)) sound = tt
once_is total (Some (And signs)) sound = tt
once_is total (Some (Or ids)) sound = tt

once_are : (total : ℕ) (equations : Equations)
    → ((number : ℕ) (is : Equation) → slice_get equations number ≡ Some (Some is) → FormulaIn total is)
    → AllOf (IsFormula total) (map at_once equations)
once_are total [] sound = tt
once_are total (equation ∷ equations) sound = (
  once_is total equation (λ is same. sound zero is (ap Some same)),
  once_are total equations (λ number is at. sound (suc number) is at),
)

-- the formula of a number in each list that begins with these, and after a graph
get_first : (formulas more : List Formula) (number : ℕ) → number < length formulas
    → slice_get (formulas ++ more) number ≡ slice_get formulas number
get_first [] more number below = absurd (omega arith)
get_first (one ∷ formulas) more zero below = refl
get_first (one ∷ formulas) more (suc number) below = get_first formulas more number (omega arith)

get_after : (graph formulas : List Formula) (number at : ℕ) → at ≡ length graph + number
    → slice_get (graph ++ formulas) at ≡ slice_get formulas number
get_after [] formulas number at is = let same : at ≡ number = omega arith in ap (slice_get formulas) same
get_after (one ∷ graph) formulas number zero is = absurd (omega arith)
get_after (one ∷ graph) formulas number (suc at) is = get_after graph formulas number at (omega arith)

module _ (old : Graph) (first : ℕ) (fits : length old ≤ first) (equations : Equations)
    (sound : AreEquations (length old) first equations) (ordered : List ℕ)
    (is : IsOrder (links first equations) ordered) where
  abbrev done : List Formula
  done = filled old first (map left equations) ordered (map at_once equations)

  done_length : length done ≡ length equations
  done_length = filled_length old first (map left equations) ordered (map at_once equations)
      ∙ length-map equations at_once

  formula_in : (equation : Equation) → IsEquation (length old) first (length equations) equation
      → FormulaIn (first + length equations) equation
  formula_in (Is is) sound = sound
  formula_in (Same id) sound = tt
  formula_in (And signs) sound = tt
  formula_in (Or ids) sound = tt

  done_are : IsGraph old → AllOf (IsFormula (first + length equations)) done
  done_are olds = filled_are old first (first + length equations)
      (each_among_more (length old) (first + length equations) (omega arith) old olds)
      (map left equations)
      (λ number equation at. formula_in equation
      (sound.each number equation (was_there equations number equation
      (found_at (map left equations) number equation at))))
      ordered (map at_once equations)
      (once_are (first + length equations) equations
      (λ number equation at. formula_in equation (sound.each number equation at)))

  -- each that is left is made of the others
  made_so : (number : ℕ) → number < length equations → (equation : Equation)
      → found (map left equations) number ≡ Some equation
      → formula_at done (node number) ≡ made (so_far old first done) equation
  made_so number below equation at = all_settled old first (map left equations) ordered (map at_once equations)
      (subst (λ (rows : List (List ℕ)). ComeAfter rows [] ordered) (sym (links_left first equations)) is.after)
      (each_weaker (λ number. number < length (links first equations))
      (λ number. number < length (map at_once equations))
      (λ number below. omega (arith, links_length first equations, length-map equations at_once)) ordered is.known)
      number (is.all number (omega (arith, links_length first equations))) equation at

  -- and each that is none has the formula that was given
  given_so : (number : ℕ) (is : Formula) → slice_get equations number ≡ Some (Some (Is is))
      → formula_at done (node number) ≡ is
  given_so number is at = all_kept old first (map left equations) ordered (map at_once equations) number
      (ap option_flatten (left_at equations number (Is is) at))
      ∙ once_at equations number is at

  module _ (graph : Graph) (long : length graph ≡ first) (agrees : AgreesWith old graph) where
    number_there : (number at : ℕ) → at ≡ first + number
        → formula_at done (node number) ≡ formula_at (graph ++ done) (node at)
    number_there number at same = ap (λ (found : Option Formula). unwrap_or found Nothing)
        (sym (get_after graph done number at (omega arith)))

    node_there : (id : NodeId) → IsNode (length old) first (length equations) id
        → so_far old first done id ≡ formula_at (graph ++ done) id
    node_there id place = by_test (nat_le first id.0) refl
      where
        small : IsNode (length old) first (length equations) id → id.0 < first → id.0 < length old
        small (inl below) less = below
        small (inr own) less = let from = own.0 in absurd (omega arith)

        by_test : (test : Bool) → nat_le first id.0 ≡ test
            → (if test then formula_at done (node (id.0 - first)) else formula_at old id)
            ≡ formula_at (graph ++ done) id
        by_test true test = let from = leb-true first id.0 test in
            number_there (id.0 - first) id.0 (omega arith)
        by_test false test = let less : id.0 < first = leb-false first id.0 test in
            agrees id (small place less)
            ∙ ap (λ (found : Option Formula). unwrap_or found Nothing) (sym (get_first graph done id.0 (omega arith)))

    under_there : (equation : Equation) → IsEquation (length old) first (length equations) equation
        → Under (λ id. so_far old first done id ≡ formula_at (graph ++ done) id) equation
    under_there (Is is) places = tt
    under_there (Same id) places = node_there id places
    under_there (And signs) places = each_weaker
        (λ (sign : Bool × NodeId). IsNode (length old) first (length equations) sign.1)
        (λ (sign : Bool × NodeId). so_far old first done sign.1 ≡ formula_at (graph ++ done) sign.1)
        (λ sign. node_there sign.1) signs places
    under_there (Or ids) places = each_weaker (IsNode (length old) first (length equations))
        (λ id. so_far old first done id ≡ formula_at (graph ++ done) id) node_there ids places

    left_solved : (number : ℕ) (equation : Equation) → IsLeft equation
        → slice_get equations number ≡ Some (Some equation)
        → formula_at (graph ++ done) (node (first + number)) ≡ made (formula_at (graph ++ done)) equation
    left_solved number equation is_left at =
        sym (number_there number (first + number) refl)
        ∙ made_so number (slice_get_within equations number (Some equation) at) equation
        (ap option_flatten (left_at equations number equation at) ∙ left_of equation is_left)
        ∙ made_same (so_far old first done) (formula_at (graph ++ done)) equation
        (under_there equation (sound.each number equation at))

    each_solved : (number : ℕ) (equation : Equation) → slice_get equations number ≡ Some (Some equation)
        → formula_at (graph ++ done) (node (first + number)) ≡ made (formula_at (graph ++ done)) equation
    each_solved number (Is is) at = sym (number_there number (first + number) refl) ∙ given_so number is at
    each_solved number (Same id) at = left_solved number (Same id) tt at
    each_solved number (And signs) at = left_solved number (And signs) tt at
    each_solved number (Or ids) at = left_solved number (Or ids) tt at

    solved : Solves (graph ++ done) first equations
    solved = record { each = each_solved }

-- what is known of formulas that were filled in
pub record IsSolved (old : Graph) (first : ℕ) (equations : Equations) (batch : List Formula) : Type 0 where
  pub number : length batch ≡ length equations
  pub formulas : AllOf (IsFormula (first + length batch)) batch
  pub solves : (graph : Graph) → length graph ≡ first → AgreesWith old graph → Solves (graph ++ batch) first equations

pub is_solved : (old : Graph) (first : ℕ) → length old ≤ first → (equations : Equations)
    → AreEquations (length old) first equations → IsGraph old → (batch : List Formula)
    → AreFilled old first equations batch → IsSolved old first equations batch
is_solved old first fits equations sound olds batch filling =
    let ordered = filling.0 in
    let long : length (done old first fits equations sound ordered filling.1) ≡ length equations =
    done_length old first fits equations sound ordered filling.1 in
    subst (IsSolved old first equations) (sym filling.2) (record {
      number = long;
      formulas = subst (λ (count : ℕ).
          AllOf (IsFormula (first + count)) (done old first fits equations sound ordered filling.1)) (sym long)
          (done_are old first fits equations sound ordered filling.1 olds);
      solves = λ graph long agrees. solved old first fits equations sound ordered filling.1 graph long agrees;
    })

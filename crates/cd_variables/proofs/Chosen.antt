-- The first of some alternatives, and a chain whose first tree is on a side of a `\`, or none is.
use Rattle.std.proofs.Common.{◌≡◌, ◌-◌, ◌<◌, ◌≤◌, Bool, true, false, List, [], ◌∷◌, ◌++◌}
use Rattle.std.proofs.Common.{take, drop, length, get_or, refl, sym, ap, ◌∙◌, append_assoc, arith}
use Rattle.std.proofs.Common.{if◌then◌else◌, length-drop}
use Rattle.std.proofs.Math.Seq.{take-length}
use Rattle.std.proofs.lemmas.Bool.{true≢false}
use Rattle.cd_syntax.specs.Name.{Name}
use Rattle.cd_syntax.specs.TypeTree.{Tree, Signs}
use Rattle.cd_resolve.specs.Faults.{Fault}
use Rattle.cd_variables.specs.Occurrences.{Occurrence, takes_away, bound, bound_by_signs}
use Rattle.cd_variables.specs.FindingVariables.{sides_in, sign_faults, names_among, reported_again}
use Rattle.cd_variables.specs.FindingVariables.{variable_faults}
use Rattle.cd_variables.specs.FindingMisplaced.{misplaced_in}
use Rattle.cd_variables.proofs.Sides.{sides_left, none_left}

-- the rest after the first item
rest_of : {X : Type 0} (items : List X)
    → take (length items - 1) (drop 1 items) ≡ drop 1 items
rest_of items = ap (λ most. take most (drop 1 items)) (sym (length-drop 1 items))
    ∙ take-length (drop 1 items)

pub first_and_rest : {X : Type 0} (items : List X) (first : X) → first ≡ get_or items 0 first
    → 1 ≤ length items → first ∷ take (length items - 1) (drop 1 items) ≡ items
first_and_rest [] first is some = absurd (omega (arith, some))
first_and_rest (x ∷ items) first is some =
    ap (λ (rest : List _). first ∷ rest) (rest_of (x ∷ items))
    ∙ ap (λ one. one ∷ items) is

-- chains
chosen_first : {X : Type 0} (b : Bool) (x y : X) → b ≡ true → x ≡ (if b then x else y)
chosen_first true x y is = refl
chosen_first false x y is = absurd (true≢false (sym is))

chosen_second : {X : Type 0} (b : Bool) (x y : X) → b ≡ false → y ≡ (if b then x else y)
chosen_second false x y is = refl
chosen_second true x y is = absurd (true≢false is)

module _ (one : Tree) (signs : Signs) where
  pub side_bound : (all after : List Occurrence) → 0 < sides_in signs → after ≡ all
      → after ++ bound_by_signs signs
      ≡ all ++ ((if takes_away signs then [] else bound one) ++ bound_by_signs signs)
  side_bound all after some is = ap (λ x. x ++ bound_by_signs signs) is
      ∙ ap (λ part. all ++ (part ++ bound_by_signs signs))
      (chosen_first (takes_away signs) [] (bound one) (sides_left signs some))

  pub kept_bound : (all after : List Occurrence) → sides_in signs ≡ 0 → after ≡ all ++ bound one
      → after ++ bound_by_signs signs
      ≡ all ++ ((if takes_away signs then [] else bound one) ++ bound_by_signs signs)
  kept_bound all after none is = ap (λ x. x ++ bound_by_signs signs) is
      ∙ append_assoc all (bound one) (bound_by_signs signs)
      ∙ ap (λ part. all ++ (part ++ bound_by_signs signs))
      (chosen_second (takes_away signs) [] (bound one) (none_left signs none))

  abbrev Found : List Fault → List Fault
  Found s = if takes_away signs then sign_faults [] signs (misplaced_in one s)
      else sign_faults (names_among (bound one)) signs
      (reported_again [] (bound one) (variable_faults one s))

  pub side_found : (seen : List Name) (s after : List Fault) → 0 < sides_in signs → seen ≡ []
      → after ≡ misplaced_in one s → sign_faults seen signs after ≡ Found s
  side_found seen s after some none is = (λ i. sign_faults (none i) signs (is i))
      ∙ chosen_first (takes_away signs) (sign_faults [] signs (misplaced_in one s))
      (sign_faults (names_among (bound one)) signs
      (reported_again [] (bound one) (variable_faults one s))) (sides_left signs some)

  pub kept_found : (seen : List Name) (s after : List Fault) → sides_in signs ≡ 0
      → seen ≡ names_among (bound one)
      → after ≡ reported_again [] (bound one) (variable_faults one s)
      → sign_faults seen signs after ≡ Found s
  kept_found seen s after none names is = (λ i. sign_faults (names i) signs (is i))
      ∙ chosen_second (takes_away signs) (sign_faults [] signs (misplaced_in one s))
      (sign_faults (names_among (bound one)) signs
      (reported_again [] (bound one) (variable_faults one s))) (none_left signs none)

-- Equations in whose formulas nodes are named by their classes give the formulas with these classes.
use Rattle.std.proofs.Common.{◌≡◌, ℕ, ◌+◌, ◌-◌, ◌<◌, Bool, true, false, List, [], ◌∷◌, map, length, Option, Some, None}
use Rattle.std.proofs.Common.{refl, sym, ap, ap₂, subst, ◌∙◌, if◌then◌else◌, set}
use Rattle.std.specs.Prelude.{nat_le}
use Rattle.std.specs.List.{slice_get}
use Rattle.std.specs.Option.{option_flatten, option_map}
use Rattle.std.proofs.lemmas.List.{length-map, map-set}
use Rattle.std.proofs.lemmas.Option.{slice_get-map, same_Some}
use Rattle.cd_sets.specs.declared.node_id.NodeId.{NodeId}
use Rattle.cd_model.specs.BuiltIns.{node}
use Rattle.cd_model.specs.Formula as formula
use Rattle.cd_model.specs.Formula.{Graph, Formula, formula_at, formulas_of}
use Rattle.cd_shared.specs.Equation.{Equation, Equations, Is, Same, And, Or}
use Rattle.cd_shared.specs.Shared.{renamed_formula, renamed_equation}
use Rattle.cd_shared.proofs.Renaming.{of_list, at_renamed, renamed_is}
use Rattle.cd_resolve.specs.Inner.Links.{numbers_under, links}
use Rattle.cd_resolve.specs.Inner.Solves.{signed, made, IsEquation, AreEquations}
use Rattle.cd_resolve.specs.Inner.Filling.{at_once, left, so_far, with_made, filled}

module _ (class : NodeId → NodeId) where
  abbrev renamed_if : Option Equation → Option Equation
  renamed_if = option_map (renamed_equation class)

  abbrev pub renamed_all : Equations → Equations
  renamed_all = map renamed_if

  -- they lead where the others do
  under_renamed : (first : ℕ) (equation : Option Equation)
      → numbers_under first (renamed_if equation) ≡ numbers_under first equation
  under_renamed first None = refl
  under_renamed first (Some (Is is)) = refl
  under_renamed first (Some (Same id)) = refl
  under_renamed first (Some (And signs)) = refl
  under_renamed first (Some (Or ids)) = refl

  pub links_renamed : (first : ℕ) (equations : Equations)
      → links first (renamed_all equations) ≡ links first equations
  links_renamed first [] = refl
  links_renamed first (equation ∷ equations) =
      ap₂ (λ (row : List ℕ) (rows : List (List ℕ)). row ∷ rows)
      (under_renamed first equation) (links_renamed first equations)

  -- what is left of them, and what they give at once
  left_one : (equation : Option Equation) → left (renamed_if equation) ≡ renamed_if (left equation)
  left_one None = refl
  left_one (Some (Is is)) = refl
  left_one (Some (Same id)) = refl
  left_one (Some (And signs)) = refl
  left_one (Some (Or ids)) = refl

  left_renamed : (equations : Equations)
      → map left (renamed_all equations) ≡ renamed_all (map left equations)
  left_renamed [] = refl
  left_renamed (equation ∷ equations) =
      ap₂ (λ (one : Option Equation) (rest : Equations). one ∷ rest)
      (left_one equation) (left_renamed equations)

  once_one : (equation : Option Equation)
      → at_once (renamed_if equation) ≡ renamed_formula class (at_once equation)
  once_one None = refl
  once_one (Some (Is is)) = refl
  once_one (Some (Same id)) = refl
  once_one (Some (And signs)) = refl
  once_one (Some (Or ids)) = refl

  once_renamed : (equations : Equations)
      → map at_once (renamed_all equations) ≡ map (renamed_formula class) (map at_once equations)
  once_renamed [] = refl
  once_renamed (equation ∷ equations) =
      ap₂ (λ (one : Formula) (rest : List Formula). one ∷ rest)
      (once_one equation) (once_renamed equations)

  -- what is made of formulas with classes has the classes
  signed_renamed : (kept : Bool) (is : Formula)
      → signed kept (renamed_formula class is) ≡ renamed_formula class (signed kept is)
  signed_renamed true is = refl
  signed_renamed false is = refl

  module _ (at by : NodeId → Formula) (same : (id : NodeId) → by id ≡ renamed_formula class (at id))
    where
      signs_renamed : (signs : List (Bool × NodeId)) → map (λ sign. signed sign.0 (by sign.1)) signs
          ≡ map (renamed_formula class) (map (λ sign. signed sign.0 (at sign.1)) signs)
      signs_renamed [] = refl
      signs_renamed (sign ∷ signs) = ap₂ (λ (one : Formula) (rest : List Formula). one ∷ rest)
          (ap (signed sign.0) (same sign.1) ∙ signed_renamed sign.0 (at sign.1))
          (signs_renamed signs)

      nodes_renamed : (ids : List NodeId) → map by ids ≡ map (renamed_formula class) (map at ids)
      nodes_renamed [] = refl
      nodes_renamed (id ∷ ids) = ap₂ (λ (one : Formula) (rest : List Formula). one ∷ rest)
          (same id) (nodes_renamed ids)

      made_renamed : (equation : Equation) → made by (renamed_equation class equation)
          ≡ renamed_formula class (made at equation)
      made_renamed (Is is) = refl
      made_renamed (Same id) = same id
      made_renamed (And signs) = ap formula.And (ap formulas_of (signs_renamed signs)
          ∙ sym (of_list class (map (λ sign. signed sign.0 (at sign.1)) signs)))
      made_renamed (Or ids) = ap formula.Or (ap formulas_of (nodes_renamed ids)
          ∙ sym (of_list class (map at ids)))

  -- where the formulas of the graph before are the same with classes
  module _ (old : Graph) (first : ℕ)
      (kept : (id : NodeId) → renamed_formula class (formula_at old id) ≡ formula_at old id) where
    so_far_renamed : (formulas : List Formula) (id : NodeId)
        → so_far old first (map (renamed_formula class) formulas) id
        ≡ renamed_formula class (so_far old first formulas id)
    so_far_renamed formulas id = by_test (nat_le first id.0)
      where
        by_test : (test : Bool)
            → (if test then formula_at (map (renamed_formula class) formulas) (node (id.0 - first))
            else formula_at old id)
            ≡ renamed_formula class
            (if test then formula_at formulas (node (id.0 - first)) else formula_at old id)
        by_test true = at_renamed class formulas (node (id.0 - first))
        by_test false = sym (kept id)

    with_made_renamed : (formulas : List Formula) (number : ℕ) (equation : Option Equation)
        → with_made old first (map (renamed_formula class) formulas) number (renamed_if equation)
        ≡ map (renamed_formula class) (with_made old first formulas number equation)
    with_made_renamed formulas number None = refl
    with_made_renamed formulas number (Some equation) =
        ap (λ is. set (map (renamed_formula class) formulas) number is)
        (made_renamed (so_far old first formulas)
        (so_far old first (map (renamed_formula class) formulas)) (so_far_renamed formulas) equation)
        ∙ sym (map-set (renamed_formula class) formulas number _)

    found_renamed : (equations : Equations) (number : ℕ)
        → option_flatten (slice_get (renamed_all equations) number)
        ≡ renamed_if (option_flatten (slice_get equations number))
    found_renamed equations number = ap option_flatten (slice_get-map renamed_if equations number)
        ∙ by_found (slice_get equations number)
      where
        by_found : (found : Option (Option Equation))
            → option_flatten (option_map renamed_if found) ≡ renamed_if (option_flatten found)
        by_found None = refl
        by_found (Some equation) = refl

    filled_renamed : (equations : Equations) (order : List ℕ) (formulas : List Formula)
        → filled old first (renamed_all equations) order (map (renamed_formula class) formulas)
        ≡ map (renamed_formula class) (filled old first equations order formulas)
    filled_renamed equations [] formulas = refl
    filled_renamed equations (number ∷ order) formulas =
        ap (filled old first (renamed_all equations) order)
        (ap (with_made old first (map (renamed_formula class) formulas) number)
        (found_renamed equations number)
        ∙ with_made_renamed formulas number (option_flatten (slice_get equations number)))
        ∙ filled_renamed equations order
        (with_made old first formulas number (option_flatten (slice_get equations number)))

    -- the formulas that they give in an order
    pub done_renamed : (equations : Equations) (order : List ℕ)
        → filled old first (map left (renamed_all equations)) order
        (map at_once (renamed_all equations))
        ≡ map (renamed_formula class)
        (filled old first (map left equations) order (map at_once equations))
    done_renamed equations order =
        ap₂ (λ (all : Equations) (formulas : List Formula). filled old first all order formulas)
        (left_renamed equations) (once_renamed equations)
        ∙ filled_renamed (map left equations) order (map at_once equations)

  -- they are equations of the same nodes
  module _ (nodes first : ℕ) where
    is_renamed : (count : ℕ)
        → ((id : NodeId) → id.0 < first + count → (class id).0 < first + count)
        → (equation : Equation) → IsEquation nodes first count equation
        → IsEquation nodes first count (renamed_equation class equation)
    is_renamed count below (Is is) sound = renamed_is class (first + count) below is sound
    is_renamed count below (Same id) sound = sound
    is_renamed count below (And signs) sound = sound
    is_renamed count below (Or ids) sound = sound

    of_renamed : (equations : Equations) (number : ℕ) (equation : Equation)
        → slice_get (renamed_all equations) number ≡ Some (Some equation)
        → (is : Equation) × (slice_get equations number ≡ Some (Some is))
        × (renamed_equation class is ≡ equation)
    of_renamed equations number equation there = by_found (slice_get equations number)
        (sym (slice_get-map renamed_if equations number) ∙ there)
      where
        by_found : (found : Option (Option Equation))
            → option_map renamed_if found ≡ Some (Some equation)
            → (is : Equation) × (found ≡ Some (Some is)) × (renamed_equation class is ≡ equation)
        by_found None same = absurd cc
        by_found (Some None) same = absurd cc
        by_found (Some (Some is)) same = (
          is,
          refl,
          same_Some (renamed_equation class is) equation
              (same_Some (Some (renamed_equation class is)) (Some equation) same),
        )

    pub sound_renamed : (equations : Equations)
        → ((id : NodeId) → id.0 < first + length equations → (class id).0 < first + length equations)
        → AreEquations nodes first equations → AreEquations nodes first (renamed_all equations)
    sound_renamed equations below sound = record {
      each = λ number equation there.
          let is = of_renamed equations number equation there in
          subst (λ (count : ℕ). IsEquation nodes first count equation)
          (sym (length-map equations renamed_if))
          (subst (IsEquation nodes first (length equations)) is.2
          (is_renamed (length equations) below is.0 (sound.each number is.0 is.1)));
    }

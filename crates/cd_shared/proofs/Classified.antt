-- What the classes of nodes that were looked at are.
use Rattle.std.proofs.Common.{◌≡◌, ℕ, ◌+◌, ◌-◌, ◌<◌, ◌≤◌, ◌⊎◌, inl, inr, Bool, true, false, List, map, length}
use Rattle.std.proofs.Common.{Option, Some, None, refl, sym, ap, subst, ◌∙◌, arith, if◌then◌else◌}
use Rattle.std.specs.Prelude.{nat_le}
use Rattle.std.specs.List.{slice_get}
use Rattle.std.specs.Option.{option_map, unwrap_or}
use Rattle.std.proofs.lemmas.Bool.{leb-true, leb-false}
use Rattle.std.proofs.lemmas.Option.{slice_get_within, slice_get_past, same_Some}
use Rattle.cd_sets.specs.declared.node_id.NodeId.{NodeId}
use Rattle.cd_model.specs.BuiltIns.{node}
use Rattle.cd_shared.specs.Equation.{Equation, Equations, Is, Same, And, Or}
use Rattle.cd_shared.specs.Shared.{class_of, classed, renamed_equation, IsNoName, AreRenamed}
use Rattle.cd_shared.specs.Inner.Found.{HasLeader, FitsClass, IsClass}
use Rattle.cd_shared.specs.Inner.Found.{AreClassified}

module _ (first : ℕ) (ids : List NodeId) where
  abbrev class : NodeId → NodeId
  class = class_of first ids

  -- the class that is read where the test is known
  by_test : (id : NodeId) (test : Bool) → nat_le first id.0 ≡ test
      → class id ≡ (if test then unwrap_or (slice_get ids (id.0 - first)) id else id)
  by_test id test same = ap (λ (test : Bool).
      if test then unwrap_or (slice_get ids (id.0 - first)) id else id) same

  class_before : (id : NodeId) → id.0 < first → class id ≡ id
  class_before id less = by_found (nat_le first id.0) refl
    where
      by_found : (test : Bool) → nat_le first id.0 ≡ test → class id ≡ id
      by_found true same = let more : first ≤ id.0 = leb-true first id.0 same in
          absurd (omega (arith, more, less))
      by_found false same = by_test id false same

  class_from : (id : NodeId) → first ≤ id.0
      → class id ≡ unwrap_or (slice_get ids (id.0 - first)) id
  class_from id more = by_found (nat_le first id.0) refl
    where
      by_found : (test : Bool) → nat_le first id.0 ≡ test
          → class id ≡ unwrap_or (slice_get ids (id.0 - first)) id
      by_found true same = by_test id true same
      by_found false same = let less : id.0 < first = leb-false first id.0 same in
          absurd (omega (arith, more, less))

  -- the class of a number
  class_at : (number : ℕ) (is : NodeId) → slice_get ids number ≡ Some is
      → class (node (first + number)) ≡ is
  class_at number is there =
      let same : first + number - first ≡ number = omega arith in
      class_from (node (first + number)) (omega arith)
      ∙ ap (λ (place : ℕ). unwrap_or (slice_get ids place) (node (first + number))) same
      ∙ ap (λ (found : Option NodeId). unwrap_or found (node (first + number))) there

  class_past : (id : NodeId) → first + length ids ≤ id.0 → class id ≡ id
  class_past id past = class_from id (omega (arith, past))
      ∙ ap (λ (found : Option NodeId). unwrap_or found id)
      (slice_get_past ids (id.0 - first) (omega (arith, past)))

  module _ (leaders : List ℕ) (equations : Equations)
      (are : AreClassified first ids leaders equations) where
    as_many : length ids ≡ length equations
    as_many = are.as_many

    -- a node is before the first, classified, or past the last
    data Place (id : NodeId) : Type 0 where
      before : id.0 < first → Place id
      classified : (is : NodeId) → class id ≡ is → IsClass first ids leaders equations is → Place id
      past : first + length equations ≤ id.0 → Place id

    place : (id : NodeId) → Place id
    place id = by_first (nat_le first id.0) refl
      where
        by_last : first ≤ id.0 → (test : Bool)
            → nat_le (first + length equations) id.0 ≡ test → Place id
        by_last more true same = past (leb-true (first + length equations) id.0 same)
        by_last more false same =
            let less : id.0 < first + length equations = leb-false _ id.0 same in
            let is = are.each (id.0 - first) (omega (arith, more, less)) in
            classified is.0
            (class_from id more ∙ ap (λ (found : Option NodeId). unwrap_or found id) is.1) is.2

        by_first : (test : Bool) → nat_le first id.0 ≡ test → Place id
        by_first true same = by_last (leb-true first id.0 same) (nat_le (first + length equations) id.0) refl
        by_first false same = before (leb-false first id.0 same)

    class_once : (id : NodeId) → class (class id) ≡ class id
    class_once id = by_place (place id)
      where
        by_place : Place id → class (class id) ≡ class id
        by_place (before less) = ap class (class_before id less)
        by_place (classified is same own) = ap class same ∙ own.0 ∙ sym same
        by_place (past more) = ap class (class_past id (omega (arith, as_many, more)))

    class_below : (id : NodeId) → id.0 < first + length equations
        → (class id).0 < first + length equations
    class_below id less = by_place (place id)
      where
        below_all : (is : NodeId) → (is.0 < first) ⊎ (is.0 - first < length equations)
            → is.0 < first + length equations
        below_all is (inl less) = omega (arith, less)
        below_all is (inr less) = omega (arith, less)

        by_place : Place id → (class id).0 < first + length equations
        by_place (before from) = subst (λ (is : NodeId). is.0 < first + length equations)
            (sym (class_before id from)) less
        by_place (classified is same own) = subst (λ (is : NodeId). is.0 < first + length equations)
            (sym same) (below_all is own.1)
        by_place (past more) = absurd (omega (arith, less, more))

    -- the class of the node with this number is right
    record Fits (number : ℕ) (equation : Equation) : Type 0 where
      of : NodeId
      is : class (node (first + number)) ≡ of
      fits : FitsClass first ids leaders equations (Some (Some equation)) of

    fits_at : (number : ℕ) (equation : Equation)
        → slice_get equations number ≡ Some (Some equation) → Fits number equation
    fits_at number equation there =
        let each = are.each number (slice_get_within equations number (Some equation) there) in
        record {
          of = each.0;
          is = class_at number each.0 each.1;
          fits = subst (λ (found : Option (Option Equation)).
              FitsClass first ids leaders equations found each.0) there each.3;
        }

    equation_there : (found : Option (Option Equation)) (of : NodeId)
        → FitsClass first ids leaders equations found of
        → (equation : Equation) × (found ≡ Some (Some equation))
    equation_there None of fits = absurd fits
    equation_there (Some None) of fits = absurd fits
    equation_there (Some (Some equation)) of fits = (equation, refl)

    led : (equation : Equation) (of : NodeId) → IsNoName equation
        → FitsClass first ids leaders equations (Some (Some equation)) of
        → HasLeader first ids leaders equations equation of
    led (Is is) of alone fits = fits
    led (Same id) of alone fits = absurd alone
    led (And signs) of alone fits = fits
    led (Or others) of alone fits = fits

    -- of one class there is one leader
    alike_by : (equation next : Equation) (one other : NodeId) → one ≡ other
        → HasLeader first ids leaders equations equation one
        → HasLeader first ids leaders equations next other
        → classed class equation ≡ classed class next
    alike_by equation next one other same (more, (leader, there, is)) (more', (leader', there', is')) =
        let leads : leader ≡ leader' = same_Some leader leader' (sym there
        ∙ ap (λ (of : NodeId). slice_get leaders (of.0 - first)) same ∙ there') in
        let both : is.0 ≡ is'.0 = same_Some is.0 is'.0 (same_Some (Some is.0) (Some is'.0) (sym is.1
        ∙ ap (slice_get equations) leads ∙ is'.1)) in
        is.2 ∙ ap (classed class) both ∙ sym is'.2

    pub classes_rename : (shared : Equations)
        → shared ≡ map (option_map (renamed_equation class)) equations
        → AreRenamed class first equations shared
    classes_rename shared renamed = record {
      renamed = renamed;
      each = λ number less.
          let is = are.each number less in equation_there (slice_get equations number) is.0 is.3;
      before = class_before;
      past = λ id more. class_past id (omega (arith, as_many, more));
      below = class_below;
      once = class_once;
      name = λ number id there.
          let fits = fits_at number (Same id) there in fits.is ∙ sym fits.fits;
      own = λ number equation there alone.
          let fits = fits_at number equation there in
          subst (λ (id : NodeId). first ≤ id.0) (sym fits.is)
          (led equation fits.of alone fits.fits).0;
      alike = λ one other equation next there at alone apart same.
          let fits = fits_at one equation there in
          let fits' = fits_at other next at in
          alike_by equation next fits.of fits'.of (sym fits.is ∙ same ∙ fits'.is)
          (led equation fits.of alone fits.fits) (led next fits'.of apart fits'.fits);
    }

-- Where formulas are made in an order in which each comes after those that it is made of, each is right at the end.
use Rattle.std.proofs.Common.{◌≡◌, ℕ, zero, suc, ◌-◌, ◌<◌, Bool, true, false, List, [], ◌∷◌, ◌++◌, map, length, set}
use Rattle.std.proofs.Common.{Option, Some, None, refl, sym, ap, ap₂, subst, ◌∙◌, arith, append_assoc, ◌⊎◌, inl, inr}
use Rattle.std.proofs.Common.{if◌then◌else◌}
use Rattle.std.specs.Prelude.{nat_le}
use Rattle.std.specs.List.{slice_get}
use Rattle.std.specs.Option.{unwrap_or}
use Rattle.std.proofs.lemmas.Bool.{cases_eq}
use Rattle.std.proofs.lemmas.List.{append-nil, length-set}
use Rattle.cd_sets.specs.declared.node_id.NodeId.{NodeId}
use Rattle.cd_model.specs.AllOf.{AllOf}
use Rattle.cd_model.specs.BuiltIns.{node}
use Rattle.cd_model.specs.Formula as formula
use Rattle.cd_model.specs.Formula.{Graph, Formula, Nothing, formula_at, formulas_of}
use Rattle.cd_resolve.specs.Inner.Order.{IsOneOf, ComeAfter, row}
use Rattle.cd_shared.specs.Equation.{Equation, Equations, Is, Same, And, Or}
use Rattle.cd_resolve.specs.Inner.Solves.{signed, made}
use Rattle.cd_resolve.specs.Inner.Links.{number_at, numbers_of, numbers_under, links}
use Rattle.cd_resolve.specs.Inner.Filling.{so_far, with_made, filled}
use Rattle.cd_resolve.proofs.EachOne.{one_of_first, one_of_later}
use Rattle.cd_resolve.proofs.Lists.{each_at, one_of_more}
use Rattle.cd_resolve.proofs.LinksRows.{found, row_of_found}

-- what a name or a connective stands over has this fact
abbrev pub Under : (NodeId → Type 0) → Equation → Type 0
Under fact (Is is) = Unit {0}
Under fact (Same id) = fact id
Under fact (And signs) = AllOf (λ sign. fact sign.1) signs
Under fact (Or ids) = AllOf fact ids

signs_same : (one other : NodeId → Formula) (signs : List (Bool × NodeId))
    → AllOf (λ sign. one sign.1 ≡ other sign.1) signs
    → map (λ sign. signed sign.0 (one sign.1)) signs ≡ map (λ sign. signed sign.0 (other sign.1)) signs
signs_same one other [] same = refl
signs_same one other (sign ∷ signs) same = ap₂ (λ (first : Formula) (rest : List Formula). first ∷ rest)
    (ap (signed sign.0) same.0) (signs_same one other signs same.1)

nodes_same : (one other : NodeId → Formula) (ids : List NodeId) → AllOf (λ id. one id ≡ other id) ids
    → map one ids ≡ map other ids
nodes_same one other [] same = refl
nodes_same one other (id ∷ ids) same =
    ap₂ (λ (first : Formula) (rest : List Formula). first ∷ rest) same.0 (nodes_same one other ids same.1)

-- an equation gives the same formula where what it stands over has the same
pub made_same : (one other : NodeId → Formula) (equation : Equation) → Under (λ id. one id ≡ other id) equation
    → made one equation ≡ made other equation
made_same one other (Is is) same = refl
made_same one other (Same id) same = same
made_same one other (And signs) same =
    ap (λ (all : List Formula). formula.And (formulas_of all)) (signs_same one other signs same)
made_same one other (Or ids) same =
    ap (λ (all : List Formula). formula.Or (formulas_of all)) (nodes_same one other ids same)

-- the formula that was put at a number, and one at another number
there : (formulas : List Formula) (number : ℕ) (is : Formula) → number < length formulas
    → unwrap_or (slice_get (set formulas number is) number) Nothing ≡ is
there [] number is below = absurd (omega arith)
there (one ∷ rest) zero is below = refl
there (one ∷ rest) (suc number) is below = there rest number is (omega arith)

elsewhere : (formulas : List Formula) (number other : ℕ) (is : Formula) → (number ≡ other → ⊥)
    → unwrap_or (slice_get (set formulas number is) other) Nothing ≡ unwrap_or (slice_get formulas other) Nothing
elsewhere [] number other is apart = refl
elsewhere (one ∷ rest) zero zero is apart = absurd (apart refl)
elsewhere (one ∷ rest) zero (suc other) is apart = refl
elsewhere (one ∷ rest) (suc number) zero is apart = refl
elsewhere (one ∷ rest) (suc number) (suc other) is apart = elsewhere rest number other is (λ same. apart (ap suc same))

-- two lists have the same formulas at these numbers
abbrev Alike : (one other : List Formula) → List ℕ → Type 0
Alike one other numbers = (number : ℕ) → IsOneOf number numbers
    → formula_at one (node number) ≡ formula_at other (node number)

module _ (old : Graph) (first : ℕ) where
  node_same : (one other : List Formula) (id : NodeId) → Alike one other (number_at first id)
      → so_far old first one id ≡ so_far old first other id
  node_same one other id same = by_test (nat_le first id.0) same
    where
      by_test : (test : Bool) → Alike one other (if test then (id.0 - first) ∷ [] else [])
          → (if test then formula_at one (node (id.0 - first)) else formula_at old id)
          ≡ (if test then formula_at other (node (id.0 - first)) else formula_at old id)
      by_test true same = same (id.0 - first) (inl refl)
      by_test false same = refl

  all_same : (one other : List Formula) (ids : List NodeId) → Alike one other (numbers_of first ids)
      → AllOf (λ id. so_far old first one id ≡ so_far old first other id) ids
  all_same one other [] same = tt
  all_same one other (id ∷ ids) same = (
    node_same one other id (λ number is. same number (one_of_first number (number_at first id) _ is)),
    all_same one other ids (λ number is. same number (one_of_later number (number_at first id) _ is)),
  )

  all_signs_same : (one other : List Formula) (signs : List (Bool × NodeId))
      → Alike one other (numbers_of first (map (λ sign. sign.1) signs))
      → AllOf (λ sign. so_far old first one sign.1 ≡ so_far old first other sign.1) signs
  all_signs_same one other [] same = tt
  all_signs_same one other (sign ∷ signs) same = (
    node_same one other sign.1 (λ number is. same number (one_of_first number (number_at first sign.1) _ is)),
    all_signs_same one other signs (λ number is. same number (one_of_later number (number_at first sign.1) _ is)),
  )

  under_same : (one other : List Formula) (equation : Equation) → Alike one other (numbers_under first (Some equation))
      → Under (λ id. so_far old first one id ≡ so_far old first other id) equation
  under_same one other (Is is) same = tt
  under_same one other (Same id) same = node_same one other id same
  under_same one other (And signs) same = all_signs_same one other signs same
  under_same one other (Or ids) same = all_same one other ids same

  -- the formula of another number stays, and that of a number without an equation
  kept_by : (formulas : List Formula) (number other : ℕ) (equation : Option Equation) → (number ≡ other → ⊥)
      → formula_at formulas (node other) ≡ formula_at (with_made old first formulas number equation) (node other)
  kept_by formulas number other None apart = refl
  kept_by formulas number other (Some equation) apart = sym (elsewhere formulas number other _ apart)

  made_length : (formulas : List Formula) (number : ℕ) (equation : Option Equation)
      → length (with_made old first formulas number equation) ≡ length formulas
  made_length formulas number None = refl
  made_length formulas number (Some equation) = length-set formulas number _

  module _ (all : Equations) where
    -- each of these numbers has its formula, which is made of formulas of these numbers
    record Settled (done : List ℕ) (formulas : List Formula) : Type 0 where
      is : (number : ℕ) → IsOneOf number done → (equation : Equation) → found all number ≡ Some equation
          → formula_at formulas (node number) ≡ made (so_far old first formulas) equation
      closed : (number : ℕ) → IsOneOf number done → (next : ℕ) → IsOneOf next (row (links first all) number)
          → IsOneOf next done

    -- one more number is settled
    module _ (done : List ℕ) (number : ℕ) (formulas : List Formula) (settled : Settled done formulas)
        (new : IsOneOf number done → ⊥)
        (known : AllOf (λ next. IsOneOf next done) (row (links first all) number))
        (below : number < length formulas) where
      abbrev after : List Formula
      after = with_made old first formulas number (found all number)

      kept : (other : ℕ) → IsOneOf other done → formula_at formulas (node other) ≡ formula_at after (node other)
      kept other one = kept_by formulas number other (found all number)
          (λ same. new (subst (λ (n : ℕ). IsOneOf n done) (sym same) one))

      of_kept : (other : ℕ) (equation : Equation) → found all other ≡ Some equation
          → ((next : ℕ) → IsOneOf next (row (links first all) other) → IsOneOf next done)
          → made (so_far old first formulas) equation ≡ made (so_far old first after) equation
      of_kept other equation at inside =
          made_same (so_far old first formulas) (so_far old first after) equation
          (under_same formulas after equation (λ next one. kept next (inside next
          (subst (IsOneOf next) (sym (row_of_found first all other ∙ ap (numbers_under first) at)) one))))

      put_now : (equation : Equation) → found all number ≡ Some equation
          → formula_at after (node number) ≡ made (so_far old first formulas) equation
      put_now equation at =
          ap (λ (found : Option Equation). formula_at (with_made old first formulas number found) (node number)) at
          ∙ there formulas number _ below

      is_now : (other : ℕ) → IsOneOf other done ⊎ (number ≡ other) → (equation : Equation)
          → found all other ≡ Some equation
          → formula_at after (node other) ≡ made (so_far old first after) equation
      is_now other (inl one) equation at =
          sym (kept other one) ∙ settled.is other one equation at ∙ of_kept other equation at (settled.closed other one)
      is_now other (inr same) equation at = subst (λ (other : ℕ).
          formula_at after (node other) ≡ made (so_far old first after) equation) same
          (put_now equation here
          ∙ of_kept number equation here (λ next one. each_at (λ next. IsOneOf next done) _ next known one))
        where
          here : found all number ≡ Some equation
          here = ap (found all) same ∙ at

      closed_now : (other : ℕ) → IsOneOf other done ⊎ (number ≡ other) → (next : ℕ)
          → IsOneOf next (row (links first all) other) → IsOneOf next done
      closed_now other (inl one) next is = settled.closed other one next is
      closed_now other (inr same) next is = each_at (λ next. IsOneOf next done)
          (row (links first all) number) next known
          (subst (λ (other : ℕ). IsOneOf next (row (links first all) other)) (sym same) is)

      one_more : Settled (done ++ number ∷ []) after
      one_more = record {
        is = λ other one equation at. is_now other (one_of_more done number other one) equation at;
        closed = λ other one next is. one_of_first next done (number ∷ [])
            (closed_now other (one_of_more done number other one) next is);
      }

    settles : (done left : List ℕ) (formulas : List Formula) → ComeAfter (links first all) done left
        → AllOf (λ number. number < length formulas) left → Settled done formulas
        → Settled (done ++ left) (filled old first all left formulas)
    settles done [] formulas later known settled = rw append-nil settled
    settles done (number ∷ left) formulas later known settled =
        subst (λ (all_done : List ℕ). Settled all_done (filled old first all (number ∷ left) formulas))
        (append_assoc done (number ∷ []) left)
        (settles (done ++ number ∷ []) left _ later.2
        (subst (λ (count : ℕ). AllOf (λ number. number < count) left)
        (sym (made_length formulas number (found all number))) known.1)
        (one_more done number formulas settled later.0 later.1 known.0))

    -- after all numbers of an order each that has an equation has its formula
    pub all_settled : (left : List ℕ) (formulas : List Formula) → ComeAfter (links first all) [] left
        → AllOf (λ number. number < length formulas) left → (number : ℕ) → IsOneOf number left
        → (equation : Equation) → found all number ≡ Some equation
        → formula_at (filled old first all left formulas) (node number)
        ≡ made (so_far old first (filled old first all left formulas)) equation
    all_settled left formulas later known number one equation at =
        let start : Settled [] formulas = record {
          is = λ number one equation at. absurd one;
          closed = λ number one. absurd one;
        } in
        (settles [] left formulas later known start).is number one equation at

    -- and each that has none has what it had
    pub all_kept : (left : List ℕ) (formulas : List Formula) (number : ℕ) → found all number ≡ None
        → formula_at (filled old first all left formulas) (node number) ≡ formula_at formulas (node number)
    all_kept [] formulas number none = refl
    all_kept (other ∷ left) formulas number none =
        all_kept left (with_made old first formulas other (found all other)) number none
        ∙ sym (by_number (cases_eq other number))
      where
        by_number : (other ≡ number) ⊎ (other ≡ number → ⊥)
            → formula_at formulas (node number)
            ≡ formula_at (with_made old first formulas other (found all other)) (node number)
        by_number (inl same) =
            ap (λ (found : Option Equation). formula_at (with_made old first formulas other found) (node number))
            (sym (ap (found all) same ∙ none))
        by_number (inr apart) = kept_by formulas other number (found all other) apart

    pub filled_length : (left : List ℕ) (formulas : List Formula)
        → length (filled old first all left formulas) ≡ length formulas
    filled_length [] formulas = refl
    filled_length (number ∷ left) formulas =
        filled_length left (with_made old first formulas number (found all number))
        ∙ made_length formulas number (found all number)

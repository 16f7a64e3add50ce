-- What a variable gathers, in the list of captures.
use Rattle.std.proofs.Common.{◌≡◌, ◌∙◌, refl, sym, ap, ap₂, ℕ, zero, suc, ◌+◌, ◌<◌, arith, Bool, true, false, eqb, List, [], ◌∷◌, ◌++◌, map, length, drop, get_or, Option, Some, None, option_map}
use Rattle.std.proofs.Common.{if◌then◌else◌, ◌≢◌, ◌⊎◌, inl, inr}
use Rattle.std.proofs.Math.ListN.{set}
use mathlib.Core.Path.{fun_ext}
use Rattle.std.specs.List.{position, position_from}
use Rattle.std.proofs.lemmas.Iterator.Adapters.{position_from-zero}
use Rattle.std.proofs.lemmas.Option.{none-some}
use Rattle.std.specs.Prelude.{cond}
use Rattle.std.proofs.lemmas.Bool.Decides.{eqb_tells}
use Rattle.std.proofs.lemmas.List.{take-append-drop, take-set-le, drop-set-add, get_or-drop, length-drop}
use Rattle.std.proofs.lemmas.List.Quantifiers.{position-Some}
use Rattle.cd_model.specs.Thing as thing
use Rattle.cd_model.specs.Thing.{Thing}
use Rattle.cd_matching.specs.Captures.{Captures, joined, or_else}
use Rattle.cd_matching.specs.Kernel.{just, before}
use Rattle.cd_cells.specs.Cells.{thing_at}
use Rattle.cd_taking.specs.declared.capture.Capture.{Capture}
use Rattle.cd_taking.specs.declared.node_parts.PairNode.{PairNode}
use Rattle.cd_taking.specs.Inner.Machine.{caught, gather, after_second}
use Rattle.cd_taking.specs.Inner.Coded.{plain_capture, is_variable, IsGathered}

-- nothing changes
pub stays_gathered : (gathers : Captures ℕ → Captures ℕ) (table : List Thing) (mark : ℕ) (captures : List Capture)
    → caught (map (plain_capture table) (drop mark captures)) ≡ gathers (caught (map (plain_capture table) (drop mark captures)))
    → IsGathered gathers table mark captures captures
stays_gathered gathers table mark captures same = record {
  more = drop mark captures;
  is = sym (take-append-drop mark captures);
  gives = same;
}

-- the variable has nothing by this list
module _ (table : List Thing) (variable : ℕ) where
  abbrev had : List Capture → Captures ℕ
  had captures = caught (map (plain_capture table) captures)

  abbrev Told : Bool → ℕ → ℕ → Type 0
  Told b one other = ((b ≡ true) × (one ≡ other)) ⊎ ((b ≡ false) × (one ≢ other))

  has_nothing : (i : ℕ) (captures : List Capture) → position_from (is_variable variable) i captures ≡ None → had captures variable ≡ None
  has_nothing i [] none = refl
  has_nothing i (one ∷ rest) none = by_test (eqb one.variable variable) none (has_nothing (i + 1) rest)
    where
      by_test : (b : Bool) → cond b (Some i) (position_from (is_variable variable) (i + 1) rest) ≡ None
          → (position_from (is_variable variable) (i + 1) rest ≡ None → had rest variable ≡ None)
          → or_else (if b then Some (thing_at table one.value.0) else None) (had rest variable) ≡ None
      by_test true none later = absurd (none-some i (sym none))
      by_test false none later = later none

  before_nothing : (first : Thing) (number : ℕ) (captures : Captures ℕ) → captures variable ≡ None → (b : Bool) → Told b variable number
      → captures number ≡ (if b then option_map (thing.Pair first) (captures number) else captures number)
  before_nothing first number captures none true (inl same) =
      let it : captures number ≡ None = ap captures (sym same.1) ∙ none in it ∙ sym (ap (option_map (thing.Pair first)) it)
  before_nothing first number captures none true (inr other) = absurd cc
  before_nothing first number captures none false told = refl

  pub nothing_gathered : (first : Thing) (captures : List Capture) → position (is_variable variable) captures ≡ None
      → had captures ≡ before variable first (had captures)
  nothing_gathered first captures none = fun_ext (λ number.
      before_nothing first number (had captures)
      (has_nothing 0 captures (sym (position_from-zero (is_variable variable) captures) ∙ none))
      (eqb variable number) (eqb_tells variable number))

  -- the first capture of the variable becomes a pair
  at_it : (first d e : Thing) (one number : ℕ) (rest : Option Thing) → one ≡ variable → e ≡ thing.Pair first d → (b : Bool)
      → or_else (if b then Some e else None) rest
      ≡ (if b then option_map (thing.Pair first) (or_else (if b then Some d else None) rest) else or_else (if b then Some d else None) rest)
  at_it first d e one number rest same is true = ap Some is
  at_it first d e one number rest same is false = refl

  after_it : (first d : Thing) (rest : Option Thing) (b c : Bool) → (c ≡ true → b ≡ true → ⊥)
      → or_else (if b then Some d else None) (if c then option_map (thing.Pair first) rest else rest)
      ≡ (if c then option_map (thing.Pair first) (or_else (if b then Some d else None) rest) else or_else (if b then Some d else None) rest)
  after_it first d rest true true apart = absurd (apart refl refl)
  after_it first d rest true false apart = refl
  after_it first d rest false true apart = refl
  after_it first d rest false false apart = refl

  differ : (one number : ℕ) → eqb one variable ≡ false → Told (eqb variable number) variable number → Told (eqb one number) one number
      → Told (eqb one variable) one variable → eqb variable number ≡ true → eqb one number ≡ true → ⊥
  differ one number other (inl here) (inl there) (inr apart) is too = apart.1 (there.1 ∙ sym here.1)
  differ one number other (inl here) (inl there) (inl same) is too = absurd cc
  differ one number other (inr here) there same is too = absurd cc
  differ one number other here (inr there) same is too = absurd cc

  pub set_gathers : (first : Thing) (new none : Capture) (captures : List Capture) (k : ℕ) → k < length captures
      → is_variable variable (get_or captures k none) ≡ true → ((j : ℕ) → j < k → is_variable variable (get_or captures j none) ≡ false)
      → new.variable ≡ variable → thing_at table new.value.0 ≡ thing.Pair first (thing_at table (get_or captures k none).value.0)
      → had (set captures k new) ≡ before variable first (had captures)
  set_gathers first new none [] k within is earlier same value = absurd (omega (arith, within))
  set_gathers first new none (one ∷ rest) zero within is earlier same value = fun_ext (λ number. by_same number (eqb_tells one.variable variable))
    where
      by_same : (number : ℕ) → Told (eqb one.variable variable) one.variable variable
          → had (new ∷ rest) number ≡ before variable first (had (one ∷ rest)) number
      by_same number (inl here) =
          let new_is : eqb new.variable number ≡ eqb variable number = ap (λ v. eqb v number) same in
          let one_is : eqb one.variable number ≡ eqb variable number = ap (λ v. eqb v number) here.1 in
          rw (new_is, one_is) (at_it first (thing_at table one.value.0) (thing_at table new.value.0) variable number (had rest number) refl value (eqb variable number))
      by_same number (inr other) = absurd cc
  set_gathers first new none (one ∷ rest) (suc k) within is earlier same value =
      let later : had (set rest k new) ≡ before variable first (had rest) =
      set_gathers first new none rest k (omega (arith, within)) is (λ j less. earlier (suc j) (omega (arith, less))) same value in
      let apart : eqb one.variable variable ≡ false = earlier 0 (omega arith) in
      ap (joined (just one.variable (thing_at table one.value.0))) later
      ∙ fun_ext (λ number. after_it first (thing_at table one.value.0) (had rest number) (eqb one.variable number) (eqb variable number)
      (differ one.variable number apart (eqb_tells variable number) (eqb_tells one.variable number) (eqb_tells one.variable variable)))

-- so the list from the mark on
pub gathered_before : (table : List Thing) (variable mark k : ℕ) (first : Thing) (new none : Capture) (captures : List Capture)
    → position (is_variable variable) (drop mark captures) ≡ Some k → new.variable ≡ variable
    → thing_at table new.value.0 ≡ thing.Pair first (thing_at table (get_or captures (mark + k) none).value.0)
    → IsGathered (before variable first) table mark captures (set captures (mark + k) new)
gathered_before table variable mark k first new none captures there same value =
    let facts = position-Some (is_variable variable) (drop mark captures) k none there in
    let here : get_or (drop mark captures) k none ≡ get_or captures (mark + k) none = get_or-drop mark captures k none in record {
      more = set (drop mark captures) k new;
      is = sym (take-append-drop mark (set captures (mark + k) new))
          ∙ ap₂ (λ (one other : List Capture). one ++ other) (take-set-le mark captures (mark + k) new (omega arith)) (drop-set-add mark captures k new);
      gives = set_gathers table variable first new none (drop mark captures) k facts.0 facts.1 facts.2 same
          (value ∙ ap (λ (one : Capture). thing.Pair first (thing_at table one.value.0)) (sym here));
    }

pub place_within : (variable mark k : ℕ) (none : Capture) (captures : List Capture) → position (is_variable variable) (drop mark captures) ≡ Some k
    → mark + k < length captures
place_within variable mark k none captures there =
    let within = (position-Some (is_variable variable) (drop mark captures) k none there).0 in
    let left = length-drop mark captures in
    omega (arith, within, left)

-- where there is no pair, no node of pairs, or no variable, nothing changes
pub no_pair_gathers : (pair : Option (Thing × Thing)) (n : Option PairNode) (captures : Captures ℕ) → pair ≡ None
    → captures ≡ after_second pair n captures
no_pair_gathers pair n captures none = sym (ap (λ pair. after_second pair n captures) none)

pub no_node_gathers : (pair : Option (Thing × Thing)) (n : Option PairNode) (captures : Captures ℕ) → n ≡ None
    → captures ≡ after_second pair n captures
no_node_gathers pair n captures none = sym (ap (λ n. after_second pair n captures) none ∙ without pair)
  where
    without : (pair : Option (Thing × Thing)) → after_second pair None captures ≡ captures
    without (Some pair) = refl
    without None = refl

pub no_variable_gathers : (pair : Option (Thing × Thing)) (n : Option PairNode) (parts : PairNode) (captures : Captures ℕ)
    → n ≡ Some parts → parts.variable ≡ None → captures ≡ after_second pair n captures
no_variable_gathers pair n parts captures is none = sym (ap (λ n. after_second pair n captures) is ∙ without pair)
  where
    without : (pair : Option (Thing × Thing)) → after_second pair (Some parts) captures ≡ captures
    without (Some pair) = ap (λ variable. gather variable pair.0 captures) none
    without None = refl

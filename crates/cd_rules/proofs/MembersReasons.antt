-- What a choice of reasons says: each refused type has one, and is among the types of its label or among those elsewhere.
use Rattle.std.proofs.Common.{◌≡◌, Bool, true, false, if◌then◌else◌, List, [], ◌∷◌, map, Some, None, bytes_eq}
use Rattle.std.proofs.Common.{◌⊎◌, inl, inr, refl, ap}
use Rattle.std.proofs.lemmas.Option.{none-some, same_Some}
use Rattle.std.proofs.lemmas.Slice.Eq.{bytes_eq-Decides}
use Rattle.cd_syntax.specs.Name.{Name}
use Rattle.cd_model.specs.AllOf.{AllOf, AnyOf}
use Rattle.cd_model.proofs.Labels.{IsOneOf}
use Rattle.cd_rules.specs.Clauses.{RecordType}
use Rattle.cd_rules.specs.Rows.{Reason, Reasons, each_with, reasons_of, types_at, types_elsewhere}
use Rattle.cd_model.proofs.Ones.{one_weaker, map_of_one, one_on_a_side}

-- a reason is a label of these, or none
abbrev pub IsKnown : List Name → Reason → Type 0
IsKnown labels None = Unit {0}
IsKnown labels (Some label) = IsOneOf labels label

-- a reason that is one of a list is one with which reasons of the others begin
with_back : (Fact : Reasons → Type 0) (type : RecordType) (reasons : List Reason) (others : List Reasons)
    → AnyOf Fact (each_with type reasons others)
    → (reason : Reason) × AnyOf (λ other. other ≡ reason) reasons × AnyOf (λ chosen. Fact ((type, reason) ∷ chosen)) others
with_back Fact type [] others one = elim one [ ]
with_back Fact type (reason ∷ reasons) others one =
    by_side (one_on_a_side Fact (map (λ chosen. (type, reason) ∷ chosen) others) (each_with type reasons others) one)
    (with_back Fact type reasons others)
  where
    by_side : AnyOf Fact (map (λ chosen. (type, reason) ∷ chosen) others) ⊎ AnyOf Fact (each_with type reasons others)
        → (AnyOf Fact (each_with type reasons others)
        → (reason : Reason) × AnyOf (λ other. other ≡ reason) reasons
        × AnyOf (λ chosen. Fact ((type, reason) ∷ chosen)) others)
        → (other : Reason) × AnyOf (λ one. one ≡ other) (reason ∷ reasons)
        × AnyOf (λ chosen. Fact ((type, other) ∷ chosen)) others
    by_side (inl here) later =
        (reason, inl refl, map_of_one (λ chosen. (type, reason) ∷ chosen) Fact others here)
    by_side (inr there) later = let rest = later there in (rest.0, inr rest.1, rest.2)

-- a reason that is one of those that a type may have is known
known : (labels : List Name) (reason : Reason) → AnyOf (λ other. other ≡ reason) (None ∷ map Some labels)
    → IsKnown labels reason
known labels None one = tt
known labels (Some label) (inl none) = absurd (none-some _ none)
known labels (Some label) (inr later) = one_weaker (λ (name : Name). Some name ≡ Some label) (λ name. name ≡ label)
    (λ name same. same_Some name label same) labels (map_of_one Some (λ (other : Reason). other ≡ Some label) labels later)

-- reasons of the refused types, with a fact
abbrev pub Chosen : (Reasons → Type 0) → List Name → List RecordType → Type 0
Chosen Fact labels refused = (reasons : Reasons) × Fact reasons × AllOf (λ one. IsKnown labels one.1) reasons
    × (map (λ one. one.0) reasons ≡ refused)

-- a fact of one of the choices of reasons is one of reasons that are known, of the refused types
pub reasons_back : (Fact : Reasons → Type 0) (labels : List Name) (refused : List RecordType)
    → AnyOf Fact (reasons_of labels refused) → Chosen Fact labels refused
reasons_back Fact labels [] (inl fact) = ([], fact, tt, refl)
reasons_back Fact labels [] (inr none) = elim none [ ]
reasons_back Fact labels (type ∷ refused) one =
    let first = with_back Fact type (None ∷ map Some labels) (reasons_of labels refused) one in
    let rest = reasons_back (λ chosen. Fact ((type, first.0) ∷ chosen)) labels refused first.2 in (
      (type, first.0) ∷ rest.0,
      rest.1,
      (known labels first.0 first.1, rest.2),
      ap (λ (types : List RecordType). type ∷ types) rest.3,
    )

module _ (At : Name → RecordType → Type 0) (OtherKinds : RecordType → Type 0) where
  -- what a type has for its reason
  abbrev pub ByReason : RecordType → Reason → Type 0
  ByReason type None = OtherKinds type
  ByReason type (Some label) = At label type

  -- what the types of each label have, and those elsewhere, each type has
  pub by_reasons : (labels : List Name) (reasons : Reasons) → AllOf (λ one. IsKnown labels one.1) reasons
      → ((label : Name) → IsOneOf labels label → AllOf (At label) (types_at label reasons))
      → AllOf OtherKinds (types_elsewhere reasons) → AllOf (λ one. ByReason one.0 one.1) reasons
  by_reasons labels [] each at elsewhere = tt
  by_reasons labels ((type, None) ∷ reasons) each at elsewhere =
      (elsewhere.0, by_reasons labels reasons each.1 at elsewhere.1)
  by_reasons labels ((type, Some name) ∷ reasons) each at elsewhere = (
    here (bytes_eq name name) ((bytes_eq-Decides name name).1 refl) (at name each.0),
    by_reasons labels reasons each.1 (λ label one. later label (bytes_eq name label) (at label one)) elsewhere,
  )
    where
      here : (same : Bool) → same ≡ true
          → AllOf (At name) (if same then type ∷ types_at name reasons else types_at name reasons) → At name type
      here true is those = those.0
      here false is those = absurd cc

      later : (label : Name) (same : Bool)
          → AllOf (At label) (if same then type ∷ types_at label reasons else types_at label reasons)
          → AllOf (At label) (types_at label reasons)
      later label true those = those.1
      later label false those = those

-- There is a choice of reasons with a fact where each refused type has a reason with it, and just there.
use Rattle.std.proofs.Common.{◌≡◌, Bool, true, false, List, [], ◌∷◌, ◌⊎◌, inl, inr, Some, None, map, refl, subst}
use Rattle.std.proofs.Common.{bytes_eq, if◌then◌else◌}
use Rattle.std.proofs.lemmas.Bool.{cases_Bool}
use Rattle.std.proofs.lemmas.Slice.Eq.{bytes_eq-Decides}
use Rattle.cd_syntax.specs.Name.{Name}
use Rattle.cd_model.specs.AllOf.{AllOf, AnyOf}
use Rattle.cd_model.proofs.Labels.{IsOneOf}
use Rattle.cd_rules.specs.Clauses.{RecordType}
use Rattle.cd_rules.specs.Rows.{Reason, Reasons, each_with, reasons_of, types_at, types_elsewhere}
use Rattle.cd_model.proofs.Ones.{one_weaker, one_of_map, map_of_one, one_on_left, one_on_right, one_on_a_side}
use Rattle.cd_model.proofs.Ones.{one_leads, each_of_lists}

module _ (IsReason : RecordType → Reason → Type 0) where
  -- each type of these has its reason
  abbrev pub AreReasons : Reasons → Type 0
  AreReasons reasons = AllOf (λ one. IsReason one.0 one.1) reasons

  -- a reason of this type, and reasons of the others, are reasons of all, and back
  with_reason : (type : RecordType) (reasons : List Reason) (others : List Reasons) → AnyOf (IsReason type) reasons
      → AnyOf AreReasons others → AnyOf AreReasons (each_with type reasons others)
  with_reason type [] others one those = elim one [ ]
  with_reason type (reason ∷ reasons) others (inl is) those = one_on_left AreReasons
      (map (λ chosen. (type, reason) ∷ chosen) others) (each_with type reasons others)
      (one_of_map (λ chosen. (type, reason) ∷ chosen) AreReasons others
      (one_weaker AreReasons (λ chosen. AreReasons ((type, reason) ∷ chosen)) (λ chosen each. (is, each)) others those))
  with_reason type (reason ∷ reasons) others (inr later) those = one_on_right AreReasons
      (map (λ chosen. (type, reason) ∷ chosen) others) (each_with type reasons others)
      (with_reason type reasons others later those)

  reason_and_others : (type : RecordType) (reasons : List Reason) (others : List Reasons)
      → AnyOf AreReasons (each_with type reasons others) → AnyOf (IsReason type) reasons × AnyOf AreReasons others
  reason_and_others type [] others is = elim is [ ]
  reason_and_others type (reason ∷ reasons) others is =
      by_side (one_on_a_side AreReasons (map (λ chosen. (type, reason) ∷ chosen) others) (each_with type reasons others) is)
      (reason_and_others type reasons others)
    where
      by_side : AnyOf AreReasons (map (λ chosen. (type, reason) ∷ chosen) others)
          ⊎ AnyOf AreReasons (each_with type reasons others)
          → (AnyOf AreReasons (each_with type reasons others) → AnyOf (IsReason type) reasons × AnyOf AreReasons others)
          → AnyOf (IsReason type) (reason ∷ reasons) × AnyOf AreReasons others
      by_side (inl here) later =
          let these = map_of_one (λ chosen. (type, reason) ∷ chosen) AreReasons others here in (
            inl (one_leads (λ chosen. AreReasons ((type, reason) ∷ chosen)) (λ chosen each. each.0) others these),
            one_weaker (λ chosen. AreReasons ((type, reason) ∷ chosen)) AreReasons (λ chosen each. each.1) others these,
          )
      by_side (inr there) later = let both = later there in (inr both.0, both.1)

  -- where each refused type has a reason, there is a choice of reasons, and back
  pub reasons_of_each : (labels : List Name) (refused : List RecordType)
      → AllOf (λ type. AnyOf (IsReason type) (None ∷ map Some labels)) refused → AnyOf AreReasons (reasons_of labels refused)
  reasons_of_each labels [] each = inl tt
  reasons_of_each labels (type ∷ refused) each =
      with_reason type (None ∷ map Some labels) (reasons_of labels refused) each.0 (reasons_of_each labels refused each.1)

  pub each_of_reasons : (labels : List Name) (refused : List RecordType)
      → AnyOf AreReasons (reasons_of labels refused) → AllOf (λ type. AnyOf (IsReason type) (None ∷ map Some labels)) refused
  each_of_reasons labels [] is = tt
  each_of_reasons labels (type ∷ refused) is =
      let both = reason_and_others type (None ∷ map Some labels) (reasons_of labels refused) is in
      (both.0, each_of_reasons labels refused both.1)

-- a reason is one of these labels, or a label that no type names
abbrev pub IsNamed : List Name → Reason → Type 0
IsNamed labels None = Unit {0}
IsNamed labels (Some label) = IsOneOf labels label

abbrev pub AreNamed : List Name → Reasons → Type 0
AreNamed labels reasons = AllOf (λ one. IsNamed labels one.1) reasons

-- each is a reason of each choice that is made with named reasons
named_with : (labels : List Name) (type : RecordType) (reasons : List Reason) (others : List Reasons)
    → AllOf (IsNamed labels) reasons → AllOf (AreNamed labels) others → AllOf (AreNamed labels) (each_with type reasons others)
named_with labels type [] others each those = tt
named_with labels type (reason ∷ reasons) others each those = each_of_lists (AreNamed labels)
    (map (λ chosen. (type, reason) ∷ chosen) others) (each_with type reasons others)
    (in_front others those) (named_with labels type reasons others each.1 those)
  where
    in_front : (others : List Reasons) → AllOf (AreNamed labels) others
        → AllOf (AreNamed labels) (map (λ chosen. (type, reason) ∷ chosen) others)
    in_front [] those = tt
    in_front (chosen ∷ others) those = ((each.0, those.0), in_front others those.1)

-- reasons that are some of these labels are named
all_named : (labels some : List Name) → ((label : Name) → IsOneOf some label → IsOneOf labels label)
    → AllOf (IsNamed labels) (map Some some)
all_named labels [] known = tt
all_named labels (label ∷ some) known = (known label (inl refl), all_named labels some (λ other one. known other (inr one)))

-- the reasons of each choice are named
pub reasons_named : (labels : List Name) (refused : List RecordType) → AllOf (AreNamed labels) (reasons_of labels refused)
reasons_named labels [] = (tt, tt)
reasons_named labels (type ∷ refused) = named_with labels type (None ∷ map Some labels) (reasons_of labels refused)
    (tt, all_named labels labels (λ label one. one)) (reasons_named labels refused)

-- what is refused at a label, and what is refused at a label that no type names
module _ (At : Name → RecordType → Type 0) (OtherKinds : RecordType → Type 0) where
  abbrev pub HasReason : RecordType → Reason → Type 0
  HasReason type (Some label) = At label type
  HasReason type None = OtherKinds type

  -- a type is refused at a label that is its reason
  pub refused_at : (label : Name) (reasons : Reasons) → AreReasons HasReason reasons
      → AllOf (At label) (types_at label reasons)
  refused_at label [] each = tt
  refused_at label ((type, None) ∷ reasons) each = refused_at label reasons each.1
  refused_at label ((type, Some other) ∷ reasons) each =
      by_name (cases_Bool (bytes_eq other label)) (refused_at label reasons each.1)
    where
      by_name : (bytes_eq other label ≡ true) ⊎ (bytes_eq other label ≡ false) → AllOf (At label) (types_at label reasons)
          → AllOf (At label) (types_at label ((type, Some other) ∷ reasons))
      by_name (inl same) later =
          let here = subst (λ (name : Name). At name type) ((bytes_eq-Decides other label).0 same) each.0 in
          rw same (here, later)
      by_name (inr differ) later = rw differ later

  -- the others are refused elsewhere
  pub refused_elsewhere : (reasons : Reasons) → AreReasons HasReason reasons → AllOf OtherKinds (types_elsewhere reasons)
  refused_elsewhere [] each = tt
  refused_elsewhere ((type, None) ∷ reasons) each = (each.0, refused_elsewhere reasons each.1)
  refused_elsewhere ((type, Some label) ∷ reasons) each = refused_elsewhere reasons each.1

  -- of the types that have a label as their reason, the first one, and those after it
  first_at : (label : Name) (type : RecordType) (reasons : Reasons)
      → AllOf (At label) (types_at label ((type, Some label) ∷ reasons)) → At label type
  first_at label type reasons each = (subst (λ (test : Bool). AllOf (At label)
      (if test then type ∷ types_at label reasons else types_at label reasons))
      ((bytes_eq-Decides label label).1 refl) each).0

  later_at : (label other : Name) (type : RecordType) (reasons : Reasons)
      → AllOf (At label) (types_at label ((type, Some other) ∷ reasons)) → AllOf (At label) (types_at label reasons)
  later_at label other type reasons each = by_name (bytes_eq other label) each
    where
      by_name : (test : Bool) → AllOf (At label) (if test then type ∷ types_at label reasons else types_at label reasons)
          → AllOf (At label) (types_at label reasons)
      by_name true each = each.1
      by_name false each = each

  -- where all types are refused at the label that is their reason, or elsewhere, these are reasons
  pub reasons_back : (labels : List Name) (reasons : Reasons) → AreNamed labels reasons
      → ((label : Name) → IsOneOf labels label → AllOf (At label) (types_at label reasons))
      → AllOf OtherKinds (types_elsewhere reasons) → AreReasons HasReason reasons
  reasons_back labels [] named at_labels others = tt
  reasons_back labels ((type, None) ∷ reasons) named at_labels others =
      (others.0, reasons_back labels reasons named.1 at_labels others.1)
  reasons_back labels ((type, Some label) ∷ reasons) named at_labels others = (
    first_at label type reasons (at_labels label named.0),
    reasons_back labels reasons named.1 (λ other one. later_at other label type reasons (at_labels other one)) others,
  )

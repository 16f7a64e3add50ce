-- Fields in which an element was put: what they have at each label, that their labels rise, and that they are of the table.
use Rattle.std.proofs.Common.{◌≡◌, refl, sym, ◌∙◌, ap, subst, true, false, bytes_eq, if◌then◌else◌}
use Rattle.std.proofs.Common.{List, [], ◌∷◌, Option, Some, None, inl, inr}
use Rattle.std.specs.Ordering.{nat_cmp, is_eq, match_ordering, ordering_reverse}
use Rattle.std.specs.Cmp.Lexicographic.{slice_cmp}
use Rattle.std.specs.declared.cmp.Ordering.{Ordering}
use Rattle.std.specs.declared.cmp.Ordering.TheVariants.{Less, Equal, Greater}
use Rattle.std.proofs.lemmas.Cmp.{nat_list_cmp_total}
use Rattle.std.proofs.lemmas.Map.Text.{is_eq-slice_cmp}
use Rattle.std.proofs.lemmas.Slice.Eq.{bytes_eq-Decides}
use Rattle.cd_syntax.specs.Name.{Name, IsLabel, IsAbove}
use Rattle.cd_model.specs.Thing.{Thing, Fields, NoField, Field}
use Rattle.cd_model.specs.AllOf.{AllOf, AnyOf}
use Rattle.cd_model.specs.Formula.{AreRisingLabels}
use Rattle.cd_elements.specs.declared.shape.ElementId.{ElementId}
use Rattle.cd_elements.specs.Parts.{HasLabels}
use Rattle.cd_elements.specs.Table as table
use Rattle.cd_elements.specs.Table.{fields_of}
use Rattle.cd_rules.specs.InRow.{thing_at}
use Rattle.cd_rules.proofs.MembersFields as members
use Rattle.cd_rules.proofs.MembersFields.{found, found_there, found_elsewhere}
use Rattle.cd_members.specs.Inner.RecordFields.{put, put_all}

-- names that are not equal differ
pub names_differ : (one other : Name) → (one ≡ other → ⊥) → bytes_eq one other ≡ false
names_differ one other differ = by_test (bytes_eq one other) (bytes_eq-Decides one other).0
  where
    by_test : (same : _) → (same ≡ true → one ≡ other) → same ≡ false
    by_test true is = absurd (differ (is refl))
    by_test false is = refl

-- what the order of two names says of them
is_same : (label name : Name) → slice_cmp nat_cmp label name ≡ Equal → label ≡ name
is_same label name equal = (bytes_eq-Decides label name).0 (sym (is_eq-slice_cmp label name) ∙ ap is_eq equal)

is_above : (label name : Name) → slice_cmp nat_cmp label name ≡ Greater → slice_cmp nat_cmp name label ≡ Less
is_above label name greater = nat_list_cmp_total.antisymm name label ∙ ap ordering_reverse greater

-- what fields have at a label, in two words
found_is : (fields : Fields) (label : Name) → thing_at fields label ≡ found fields label
found_is NoField label = refl
found_is (Field name is rest) label =
    ap (λ (later : Option Thing). if bytes_eq name label then Some is else later) (found_is rest label)

-- the labels rise still
pub put_rises : (before : Option Name) (label : Name) (id : ElementId) (parts : List (Name × ElementId)) → IsLabel label
    → IsAbove before label → AreRisingLabels before parts → AreRisingLabels before (put label id parts)
put_rises before label id [] is above rise = (is, above, tt)
put_rises before label id (part ∷ parts) is above rise =
    by_order (slice_cmp nat_cmp label part.0) refl (λ higher. put_rises (Some part.0) label id parts is higher rise.2)
  where
    by_order : (order : Ordering) → slice_cmp nat_cmp label part.0 ≡ order
        → (slice_cmp nat_cmp part.0 label ≡ Less → AreRisingLabels (Some part.0) (put label id parts))
        → AreRisingLabels before (match_ordering order ((label, id) ∷ part ∷ parts) ((label, id) ∷ parts)
        (part ∷ put label id parts))
    by_order Less is_order later = (is, above, (rise.0, is_order, rise.2))
    by_order Equal is_order later =
        (is, above, subst (λ (name : Name). AreRisingLabels (Some name) parts) (sym (is_same label part.0 is_order)) rise.2)
    by_order Greater is_order later = (rise.0, rise.1, later (is_above label part.0 is_order))

-- what holds of each element holds of each still
pub put_keeps : (fact : ElementId → Type 0) (label : Name) (id : ElementId) (parts : List (Name × ElementId)) → fact id
    → AllOf (λ part. fact part.1) parts → AllOf (λ part. fact part.1) (put label id parts)
put_keeps fact label id [] is each = (is, tt)
put_keeps fact label id (part ∷ parts) is each =
    by_order (slice_cmp nat_cmp label part.0) (put_keeps fact label id parts is each.1)
  where
    by_order : (order : Ordering) → AllOf (λ part. fact part.1) (put label id parts)
        → AllOf (λ part. fact part.1) (match_ordering order ((label, id) ∷ part ∷ parts) ((label, id) ∷ parts)
        (part ∷ put label id parts))
    by_order Less later = (is, each)
    by_order Equal later = (is, each.1)
    by_order Greater later = (each.0, later)

-- so it is with several
pub all_rise : (labels : List Name) (ids : List ElementId) (parts : List (Name × ElementId)) → AllOf IsLabel labels
    → HasLabels parts → HasLabels (put_all labels ids parts)
all_rise [] ids parts are rise = rise
all_rise (label ∷ labels) [] parts are rise = rise
all_rise (label ∷ labels) (id ∷ ids) parts are rise =
    all_rise labels ids (put label id parts) are.1 (put_rises None label id parts are.0 tt rise)

pub all_keep : (fact : ElementId → Type 0) (labels : List Name) (ids : List ElementId) (parts : List (Name × ElementId))
    → AllOf fact ids → AllOf (λ part. fact part.1) parts → AllOf (λ part. fact part.1) (put_all labels ids parts)
all_keep fact [] ids parts are each = each
all_keep fact (label ∷ labels) [] parts are each = each
all_keep fact (label ∷ labels) (id ∷ ids) parts are each =
    all_keep fact labels ids (put label id parts) are.1 (put_keeps fact label id parts are.0 each)

module _ (elements : List Thing) where
  -- an element is put among the fields
  put_is : (label : Name) (id : ElementId) (parts : List (Name × ElementId))
      → fields_of elements (put label id parts) ≡ members.put label (table.element_at elements id) (fields_of elements parts)
  put_is label id [] = refl
  put_is label id (part ∷ parts) = by_order (slice_cmp nat_cmp label part.0) (put_is label id parts)
    where
      by_order : (order : Ordering)
          → fields_of elements (put label id parts) ≡ members.put label (table.element_at elements id) (fields_of elements parts)
          → fields_of elements (match_ordering order ((label, id) ∷ part ∷ parts) ((label, id) ∷ parts) (part ∷ put label id parts))
          ≡ match_ordering order
          (Field label (table.element_at elements id) (Field part.0 (table.element_at elements part.1) (fields_of elements parts)))
          (Field label (table.element_at elements id) (fields_of elements parts))
          (Field part.0 (table.element_at elements part.1)
          (members.put label (table.element_at elements id) (fields_of elements parts)))
      by_order Less later = refl
      by_order Equal later = refl
      by_order Greater later = ap (Field part.0 (table.element_at elements part.1)) later

  -- what some fields have at a label
  abbrev pub at : List (Name × ElementId) → Name → Option Thing
  at parts label = thing_at (fields_of elements parts) label

  module _ (label : Name) (id : ElementId) (parts : List (Name × ElementId)) where
    -- they have the element there
    pub at_there : at (put label id parts) label ≡ Some (table.element_at elements id)
    at_there = ap (λ (fields : Fields). thing_at fields label) (put_is label id parts)
        ∙ found_is (members.put label (table.element_at elements id) (fields_of elements parts)) label
        ∙ found_there label (table.element_at elements id) (fields_of elements parts)

    -- and at another label what they had
    pub at_elsewhere : (other : Name) → (label ≡ other → ⊥) → at (put label id parts) other ≡ at parts other
    at_elsewhere other differ = ap (λ (fields : Fields). thing_at fields other) (put_is label id parts)
        ∙ found_is (members.put label (table.element_at elements id) (fields_of elements parts)) other
        ∙ found_elsewhere label (table.element_at elements id) (fields_of elements parts) other (names_differ label other differ)
        ∙ sym (found_is (fields_of elements parts) other)

  -- after several they have at each other label what they had
  pub at_others : (labels : List Name) (ids : List ElementId) (parts : List (Name × ElementId)) (other : Name)
      → (AnyOf (λ label. label ≡ other) labels → ⊥) → at (put_all labels ids parts) other ≡ at parts other
  at_others [] ids parts other none = refl
  at_others (label ∷ labels) [] parts other none = refl
  at_others (label ∷ labels) (id ∷ ids) parts other none =
      at_others labels ids (put label id parts) other (λ one. none (inr one)) ∙ at_elsewhere label id parts other (λ same. none (inl same))

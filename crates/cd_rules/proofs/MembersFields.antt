-- Fields of an element, built one by one: what they have at each label.
use Rattle.std.proofs.Common.{◌≡◌, Bool, true, false, Option, Some, None, if◌then◌else◌, bytes_eq}
use Rattle.std.proofs.Common.{refl, sym, ◌∙◌, ap, subst}
use Rattle.std.specs.declared.cmp.Ordering.{Ordering}
use Rattle.std.specs.Ordering.{nat_cmp, is_eq, ordering_reverse, match_ordering}
use Rattle.std.specs.Cmp.Lexicographic.{slice_cmp}
use Rattle.std.specs.declared.cmp.Ordering.TheVariants.{Less, Equal, Greater}
use Rattle.std.proofs.lemmas.Cmp.{nat_list_cmp_total}
use Rattle.std.proofs.lemmas.Map.Text.{is_eq-slice_cmp}
use Rattle.std.proofs.lemmas.Slice.Eq.{bytes_eq-Decides}
use Rattle.cd_syntax.specs.Name.{Name, IsLabel}
use Rattle.cd_model.specs.Thing as thing
use Rattle.cd_model.specs.Thing.{Thing, IsElement, Fields, NoField, LabelsRise, AreFields}
use Rattle.cd_syntax.specs.Name.{IsAbove}
use Rattle.cd_model.specs.Formula.{Graph, Field}
use Rattle.cd_model.specs.Membership.{absent, either, labelled, answers}

-- what fields have at a label
abbrev pub found : Fields → Name → Option Thing
found NoField label = None
found (thing.Field name is rest) label = if bytes_eq name label then Some is else found rest label

-- what this, at a label, answers at a field
abbrev pub has : Graph → Option Thing → Field → Bool → Type 0
has graph None field answer = absent field answer
has graph (Some is) field answer = answers graph is field.type answer

-- fields answer at a label as what they have there does
pub labelled_as_found : (graph : Graph) (fields : Fields) (label : Name) (field : Field) (answer : Bool)
    → has graph (found fields label) field answer → labelled graph fields label field answer
labelled_as_found graph NoField label field answer h = h
labelled_as_found graph (thing.Field name is rest) label field answer h =
    by_name (bytes_eq name label) (labelled_as_found graph rest label field answer) h
  where
    by_name : (same : Bool) → (has graph (found rest label) field answer → labelled graph rest label field answer)
        → has graph (if same then Some is else found rest label) field answer
        → either same (answers graph is field.type answer) (labelled graph rest label field answer)
    by_name true later h = h
    by_name false later h = later h

-- fields with this at a label, in the place of what they have there
abbrev pub put : Name → Thing → Fields → Fields
put label is NoField = thing.Field label is NoField
put label is (thing.Field name other rest) = match_ordering (slice_cmp nat_cmp label name)
    (thing.Field label is (thing.Field name other rest)) (thing.Field label is rest)
    (thing.Field name other (put label is rest))

-- what the order of two names says of them
is_itself : (name : Name) → bytes_eq name name ≡ true
is_itself name = (bytes_eq-Decides name name).1 refl

is_same : (label name : Name) → slice_cmp nat_cmp label name ≡ Equal → label ≡ name
is_same label name equal = (bytes_eq-Decides label name).0 (sym (is_eq-slice_cmp label name) ∙ ap is_eq equal)

is_above : (label name : Name) → slice_cmp nat_cmp label name ≡ Greater → slice_cmp nat_cmp name label ≡ Less
is_above label name greater = nat_list_cmp_total.antisymm name label ∙ ap ordering_reverse greater

is_other : (label name : Name) → slice_cmp nat_cmp label name ≡ Greater → bytes_eq name label ≡ false
is_other label name greater = sym (is_eq-slice_cmp name label) ∙ ap is_eq (is_above label name greater)

-- they have it there
pub found_there : (label : Name) (is : Thing) (fields : Fields) → found (put label is fields) label ≡ Some is
found_there label is NoField = rw (is_itself label) refl
found_there label is (thing.Field name other rest) =
    by_order (slice_cmp nat_cmp label name) refl (found_there label is rest)
  where
    by_order : (order : Ordering) → slice_cmp nat_cmp label name ≡ order → found (put label is rest) label ≡ Some is
        → found (match_ordering order (thing.Field label is (thing.Field name other rest))
        (thing.Field label is rest) (thing.Field name other (put label is rest))) label ≡ Some is
    by_order Less is_order later = rw (is_itself label) refl
    by_order Equal is_order later = rw (is_itself label) refl
    by_order Greater is_order later = rw (is_other label name is_order) later

-- and at another label what they had
pub found_elsewhere : (label : Name) (is : Thing) (fields : Fields) (other : Name) → bytes_eq label other ≡ false
    → found (put label is fields) other ≡ found fields other
found_elsewhere label is NoField other differ = rw differ refl
found_elsewhere label is (thing.Field name old rest) other differ =
    by_order (slice_cmp nat_cmp label name) refl (found_elsewhere label is rest other differ)
  where
    by_order : (order : Ordering) → slice_cmp nat_cmp label name ≡ order
        → found (put label is rest) other ≡ found rest other
        → found (match_ordering order (thing.Field label is (thing.Field name old rest))
        (thing.Field label is rest) (thing.Field name old (put label is rest))) other
        ≡ found (thing.Field name old rest) other
    by_order Less is_order later = rw differ refl
    by_order Equal is_order later =
        let also = subst (λ (one : Name). bytes_eq one other ≡ false) (is_same label name is_order) differ in
        rw (differ, also) refl
    by_order Greater is_order later =
        ap (λ (rest : Option Thing). if bytes_eq name other then Some old else rest) later

-- their labels rise
pub put_rises : (before : Option Name) (label : Name) (is : Thing) (fields : Fields) → IsAbove before label
    → LabelsRise before fields → LabelsRise before (put label is fields)
put_rises before label is NoField above rise = (above, tt)
put_rises before label is (thing.Field name old rest) above rise =
    by_order (slice_cmp nat_cmp label name) refl (λ higher. put_rises (Some name) label is rest higher rise.1)
  where
    by_order : (order : Ordering) → slice_cmp nat_cmp label name ≡ order
        → (slice_cmp nat_cmp name label ≡ Less → LabelsRise (Some name) (put label is rest))
        → LabelsRise before (match_ordering order (thing.Field label is (thing.Field name old rest))
        (thing.Field label is rest) (thing.Field name old (put label is rest)))
    by_order Less is_order later = (above, (is_order, rise.1))
    by_order Equal is_order later =
        (above, subst (λ (one : Name). LabelsRise (Some one) rest) (sym (is_same label name is_order)) rise.1)
    by_order Greater is_order later = (rise.0, later (is_above label name is_order))

-- and they are fields of an element
pub put_fields : (label : Name) (is : Thing) (fields : Fields) → IsLabel label → IsElement is → AreFields fields
    → AreFields (put label is fields)
put_fields label is NoField is_label is_element are = (is_label, is_element, tt)
put_fields label is (thing.Field name old rest) is_label is_element are =
    by_order (slice_cmp nat_cmp label name) (put_fields label is rest is_label is_element are.2)
  where
    by_order : (order : Ordering) → AreFields (put label is rest)
        → AreFields (match_ordering order (thing.Field label is (thing.Field name old rest))
        (thing.Field label is rest) (thing.Field name old (put label is rest)))
    by_order Less later = (is_label, is_element, are)
    by_order Equal later = (is_label, is_element, are.2)
    by_order Greater later = (are.0, are.1, later)

-- A row whose questions have witnesses gives a record that is in each wanted type and outside each
-- refused one.
use Rattle.std.proofs.Common.{◌≡◌, Bool, true, false, if◌then◌else◌, List, [], ◌∷◌, ◌++◌, map, bytes_eq, ◌⊎◌, refl}
use Rattle.std.specs.List.{list_any}
use Rattle.cd_syntax.specs.Name.{Name, IsLabel}
use Rattle.cd_model.specs.Thing as thing
use Rattle.cd_model.specs.AllOf.{AllOf, AnyOf}
use Rattle.cd_model.specs.Formula.{Graph, Field}
use Rattle.cd_model.proofs.Labels.{names_of}
use Rattle.cd_rules.specs.Clauses.{Records, RecordType}
use Rattle.cd_rules.specs.Members.{HasElement, HasMember, HaveLabels, HasWitnesses}
use Rattle.cd_rules.specs.Needs.{question}
use Rattle.cd_rules.specs.Rows.{Cell, with_label, labels_after, labels_of, types_elsewhere}
use Rattle.cd_rules.specs.Rows.{cell_at, reasons_of, row_of, rows_of}
use Rattle.cd_rules.proofs.Asking.{each_of_map}
use Rattle.cd_rules.proofs.Answered.{map_of_each}
use Rattle.cd_model.proofs.Ones.{map_of_one}
use Rattle.cd_rules.proofs.FreshLabels.{longest}
use Rattle.cd_rules.proofs.MembersReasons.{Chosen, reasons_back}
use Rattle.cd_rules.proofs.MembersRows.{InRests, HasRest, in_rests, in_wanted, out_of_refused}
use Rattle.cd_rules.proofs.MembersCells.{cells_fit, have_more}

-- so each of their labels is one
with_label_is : (label : Name) (labels : List Name) → IsLabel label → AllOf IsLabel labels
    → AllOf IsLabel (with_label label labels)
with_label_is label labels is each = by_any (list_any (bytes_eq label) labels)
  where
    by_any : (any : Bool) → AllOf IsLabel (if any then labels else label ∷ labels)
    by_any true = each
    by_any false = (is, each)

labels_after_are : (these labels : List Name) → AllOf IsLabel these → AllOf IsLabel labels
    → AllOf IsLabel (labels_after these labels)
labels_after_are [] labels are each = each
labels_after_are (label ∷ these) labels are each =
    with_label_is label (labels_after these labels) are.0 (labels_after_are these labels are.1 each)

pub labels_are : (types : List RecordType) → HaveLabels types → AllOf IsLabel (labels_of types)
labels_are [] have = tt
labels_are (type ∷ types) have = labels_after_are (names_of type.named) (labels_of types)
    (each_of_map (λ (field : Name × Field). field.0) IsLabel type.named have.0) (labels_are types have.1)

-- each of two lists together
pub each_of_both : {X : Type 0} (Is : X → Type 0) (xs ys : List X) → AllOf Is xs → AllOf Is ys → AllOf Is (xs ++ ys)
each_of_both Is [] ys each others = others
each_of_both Is (x ∷ xs) ys each others = (each.0, each_of_both Is xs ys each.1 others)

-- fields of the cells of a row, and of its other questions, are a record of the clause
row_has : (graph : Graph) (wanted refused : List RecordType) → HaveLabels wanted → HaveLabels refused
    → Chosen (λ reasons. HasWitnesses (HasElement graph) (row_of (labels_of (wanted ++ refused)) wanted reasons))
    (labels_of (wanted ++ refused)) refused
    → HasMember graph (Records wanted refused)
row_has graph wanted refused wanted_labels refused_labels (reasons, witnesses, known, same) =
    let labels = labels_of (wanted ++ refused) in
    let are = labels_are (wanted ++ refused)
    (each_of_both (λ (type : RecordType). AllOf (λ field. IsLabel field.0) type.named) wanted refused
    wanted_labels refused_labels) in
    let base = cells_fit graph (cell_at wanted reasons) labels are
    (map_of_each (λ label. (label, cell_at wanted reasons label))
    (λ (cell : Name × Cell). (cell.1.absent ≡ true) ⊎ HasElement graph cell.1.value) labels witnesses.0) in
    let more = have_more (InRests graph wanted) (HasRest graph wanted) (in_rests graph wanted) base.0 base.1 base.2
    (types_elsewhere reasons) (longest labels)
    (map_of_each (λ (type : RecordType). question (map (λ type. type.rest) wanted) (type.rest ∷ [])) (HasElement graph)
    (types_elsewhere reasons) witnesses.1) in (
      thing.Record more.0,
      (more.1, more.2),
      (
        refl,
        in_wanted graph wanted reasons refused base more,
        out_of_refused graph wanted reasons refused base more known same,
      ),
    )

-- A row whose questions have witnesses gives a record that is in each wanted type and outside each
-- refused one
pub records_have : (graph : Graph) (wanted refused : List RecordType) → HaveLabels wanted → HaveLabels refused
    → AnyOf (HasWitnesses (HasElement graph)) (rows_of wanted refused) → HasMember graph (Records wanted refused)
records_have graph wanted refused wanted_labels refused_labels witnesses =
    let labels = labels_of (wanted ++ refused) in
    row_has graph wanted refused wanted_labels refused_labels
    (reasons_back (λ reasons. HasWitnesses (HasElement graph) (row_of labels wanted reasons)) labels refused
    (map_of_one (row_of labels wanted) (HasWitnesses (HasElement graph)) (reasons_of labels refused) witnesses))

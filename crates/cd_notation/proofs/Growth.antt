-- What is open stays open in a table that has grown.
use Rattle.std.proofs.Common.{◌∙◌, ap, subst, sym, ℕ, List}
use Rattle.cd_syntax.specs.Name.{Name, IsLabel}
use Rattle.cd_model.specs.Thing.{Thing, Atom, Record}
use Rattle.cd_documents.specs.Machine.{OpenTree}
use Rattle.cd_cells.specs.declared.values.Values.{Values}
use Rattle.cd_cells.specs.declared.cell.ValueId.{ValueId}
use Rattle.cd_cells.specs.Cells.{name_at}
use Rattle.cd_cells.specs.Table.{table, names, Grows}
use Rattle.cd_cells.proofs.GrownTables.{at_grown}
use Rattle.cd_cells.proofs.InGrown.{name_in_grown}
use Rattle.cd_notation.specs.declared.form.OpenForm.{OpenForm}
use Rattle.cd_notation.specs.Inner.Open as the
use Rattle.cd_notation.specs.Inner.Open.{AreAt, IsLabelAt, AreLabelsAt, HasItems, HasLabels, IsOpen}

module _ (old new : Values) (grows : Grows old new) where
  pub are_grown : (ids : List ValueId) (values : List Thing) → AreAt (table old) ids values → AreAt (table new) ids values
  are_grown _ _ the.AreAt.none = the.AreAt.none
  are_grown _ _ (the.AreAt.one id value ids values at are) = the.AreAt.one id value ids values (at_grown old new grows id.0 value at) (are_grown ids values are)

  label_grown : (number : ℕ) (label : Name) → IsLabelAt (names old) number label → IsLabelAt (names new) number label
  label_grown number label at = record {
    sound = at.sound;
    is = ap (λ all. name_at all number) grows.labels.1 ∙ name_in_grown (names old) grows.labels.0 number (subst IsLabel (sym at.is) at.sound) ∙ at.is;
  }

  labels_grown : (numbers : List ℕ) (labels : List Name) → AreLabelsAt (names old) numbers labels → AreLabelsAt (names new) numbers labels
  labels_grown _ _ the.AreLabelsAt.none = the.AreLabelsAt.none
  labels_grown _ _ (the.AreLabelsAt.one number label numbers labels at are) =
      the.AreLabelsAt.one number label numbers labels (label_grown number label at) (labels_grown numbers labels are)

  pub items_grown : (from : ℕ) (items below : List ValueId) (values : List Thing) → HasItems (table old) from items below values → HasItems (table new) from items below values
  items_grown from items below values has = record { top = has.top; is = has.is; at = are_grown has.top values has.at }

  pub all_labels_grown : (from : ℕ) (numbers below : List ℕ) (labels : List Name) → HasLabels (names old) from numbers below labels → HasLabels (names new) from numbers below labels
  all_labels_grown from numbers below labels has = record { top = has.top; is = has.is; at = labels_grown has.top labels has.at; apart = has.apart }

  pub open_grown : (forms : List OpenForm) (items : List ValueId) (labels : List ℕ) (trees : List OpenTree)
      → IsOpen (names old) (table old) forms items labels trees → IsOpen (names new) (table new) forms items labels trees
  open_grown _ _ _ _ the.nothing = the.nothing
  open_grown _ _ _ _ (the.tuple from forms items below labels values trees has rest) =
      the.tuple from forms items below labels values trees (items_grown from items below values has) (open_grown forms below labels trees rest)
  open_grown _ _ _ _ (the.sequence from forms items below labels values trees has rest) =
      the.sequence from forms items below labels values trees (items_grown from items below values has) (open_grown forms below labels trees rest)
  open_grown _ _ _ _ (the.fields first from forms items below numbers below_numbers labels values trees named has rest) =
      the.fields first from forms items below numbers below_numbers labels values trees
      (all_labels_grown first numbers below_numbers labels named) (items_grown from items below values has) (open_grown forms below below_numbers trees rest)
  open_grown _ _ _ _ (the.tag tag name first from forms items below numbers below_numbers labels values trees at named has rest) =
      the.tag tag name first from forms items below numbers below_numbers labels values trees (at_grown old new grows tag.0 (Atom name) at)
      (all_labels_grown first numbers below_numbers labels named) (items_grown from items below values has) (open_grown forms below below_numbers trees rest)
  open_grown _ _ _ _ (the.content tag attributes name all forms items numbers trees at at_attributes rest) =
      the.content tag attributes name all forms items numbers trees (at_grown old new grows tag.0 (Atom name) at) (at_grown old new grows attributes.0 (Record all) at_attributes)
      (open_grown forms items numbers trees rest)

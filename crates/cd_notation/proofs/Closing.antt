-- A form that ends is a value.
use Rattle.std.proofs.Common.{◌≡◌, ◌∙◌, ap, subst, sym, refl, ℕ, ◌<◌, ◌≤◌, ◌-◌, List, [], ◌∷◌, Some, drop, length}
use Rattle.cd_syntax.specs.Name.{Name}
use Rattle.cd_model.specs.AllOf.{AllOf}
use Rattle.cd_model.specs.Thing.{Thing, Fields, NoField, Atom, Record}
use Rattle.cd_documents.specs.Machine.{OpenTree, state, InRecord, InTag, InContent, AtValue, put, pairs, with_fields, close_record, close_tag}
use Rattle.cd_cells.specs.declared.values.Values.{Values}
use Rattle.cd_cells.specs.declared.cell.ValueId.{ValueId}
use Rattle.cd_cells.specs.declared.cell.Part.{Part}
use Rattle.cd_cells.specs.Cells.{thing_at, IsPart}
use Rattle.cd_cells.specs.Table.{table, names, IsAt, Grows}
use Rattle.cd_notation.specs.Open.{names_of, values_of, LabelsDiffer}
use Rattle.cd_notation.specs.declared.form.OpenForm.{OpenForm}
use Rattle.cd_notation.specs.declared.form.OpenForm.TheVariants as form
use Rattle.cd_notation.specs.declared.form.Expecting.{Expecting}
use Rattle.cd_notation.specs.declared.form.Expecting.TheVariants as expecting
use Rattle.cd_notation.specs.declared.reader.Reader.{Reader}
use Rattle.cd_notation.specs.Inner.Open as the
use Rattle.cd_notation.specs.Inner.Open.{AreAt, AreLabelsAt, IsTop, HasItems, HasLabels, IsOpen}
use Rattle.cd_notation.specs.Inner.Leading.{Stands, Leads, IsGathered, ClosesForms, IsClosed, parts_of, TakesRecord}
use Rattle.cd_notation.proofs.Growth.{open_grown, items_grown}
use Rattle.cd_notation.proofs.Collecting.{none_over}
use Rattle.cd_notation.proofs.Cutting.{cut_top}
use Rattle.cd_notation.proofs.Parts.{are_parts, same_fields, labels_differ}
use Rattle.cd_notation.proofs.Stepping.{Led, lead_some, open_at}

-- the parts of a form make its fields
pub record Ready (values : Values) (parts : List Part) (labels : List Name) (all : List Thing) : Type 0 where
  pub fit : AllOf (IsPart (names values) (length (table values))) parts
  pub differ : LabelsDiffer parts
  pub is : with_fields (names_of (names values) parts) (values_of (table values) parts) NoField ≡ with_fields labels all NoField

pub ready : (values : Values) (first from : ℕ) (numbers below_numbers : List ℕ) (items below : List ValueId) (labels : List Name) (all : List Thing) (parts : List Part)
    → (named : HasLabels (names values) first numbers below_numbers labels) → (has : HasItems (table values) from items below all) → parts ≡ parts_of named.top has.top
    → Ready values parts labels all
ready values first from numbers below_numbers items below labels all parts named has is =
    subst (λ (parts : List Part). Ready values parts labels all) (sym is)
    (let same = same_fields (names values) (table values) named.top has.top labels all NoField named.at has.at in
    record {
      fit = are_parts (names values) (table values) named.top has.top labels all named.at has.at;
      differ = labels_differ (names values) (table values) named.top has.top labels named.at named.apart;
      is = same;
    })

no_names : (names : List Name) (numbers : List ℕ) (labels : List Name) → AreLabelsAt names numbers labels → numbers ≡ [] → labels ≡ []
no_names names _ _ the.AreLabelsAt.none none = refl
no_names names _ _ (the.AreLabelsAt.one number label numbers labels at are) none = absurd (cc none)

-- a form without labels
pub takes_none : (values new_values : Values) (old new : Reader) (first from id : ℕ) → length old.labels ≤ first → new.labels ≡ old.labels
    → new.items ≡ drop (length old.items - from) old.items → IsAt (table new_values) id (Record NoField) → TakesRecord values old first from new_values id new
takes_none values new_values old new first from id few same cut at below_numbers below named all has_labels has_items =
    let none = none_over first old.labels has_labels.top below_numbers few has_labels.is in
    record {
      at = subst (λ (named : List Name). IsAt (table new_values) id (Record (with_fields named all NoField)))
          (sym (no_names (names values) has_labels.top named has_labels.at none.0)) at;
      labels = same ∙ none.1;
      items = cut ∙ cut_top from has_items.top below old.items has_items.is.is has_items.is.under;
    }

-- its parts were collected
pub takes_parts : (values new_values : Values) (old new : Reader) (first from id : ℕ) (parts : List Part)
    → ((numbers below_numbers : List ℕ) (ids below : List ValueId) → IsTop first numbers below_numbers old.labels → IsTop from ids below old.items
    → (parts ≡ parts_of numbers ids) × (new.labels ≡ below_numbers) × (new.items ≡ below))
    → IsAt (table new_values) id (Record (with_fields (names_of (names values) parts) (values_of (table values) parts) NoField))
    → TakesRecord values old first from new_values id new
takes_parts values new_values old new first from id parts collects at below_numbers below named all has_labels has_items =
    let got = collects has_labels.top below_numbers has_items.top below has_labels.is has_items.is in
    let whole = ready values first from old.labels below_numbers old.items below named all parts has_labels has_items got.0 in
    record {
      at = subst (λ (fields : Fields). IsAt (table new_values) id (Record fields)) whole.is at;
      labels = got.1;
      items = got.2;
    }

-- the items of the form were gathered, and the value was put
pub closed : (old one two : Values) (reader last : Reader) (from end id : ℕ) (left : List ValueId) (next : Expecting) → Grows old one
    → IsGathered (table old) from reader.items end (table one) left id
    → ((is : Thing) (trees : List OpenTree) → IsAt (table one) id is → IsOpen (names one) (table one) reader.forms left reader.labels trees → Stands two next last (put is trees))
    → IsClosed old reader from end two (Some next) last
closed old one two reader last from end id left next grows gathers stands below all final trees has at are =
    let made = gathers below all final has at in
    stands (pairs all final) trees made.1
    (open_at (names one) (table one) reader.forms below left reader.labels trees made.0 (open_grown old one grows reader.forms below reader.labels trees are))

-- what the calls require
pub record CanPut (one : Values) (forms : List OpenForm) (left : List ValueId) (labels : List ℕ) (id : ℕ) : Type 0 where
  pub within : id < length (table one)
  pub trees : List OpenTree
  pub are : IsOpen (names one) (table one) forms left labels trees

pub can_put : (old one : Values) (reader : Reader) (from end id : ℕ) (left : List ValueId) → Grows old one
    → IsGathered (table old) from reader.items end (table one) left id → end < length (table old) → ClosesForms old reader from
    → CanPut one reader.forms left reader.labels id
can_put old one reader from end id left grows gathers within closes =
    let made = gathers closes.below closes.all (thing_at (table old) end) closes.items record { within = within; is = refl } in
    record {
      within = made.1.within;
      trees = closes.trees;
      are = open_at (names one) (table one) reader.forms closes.below left reader.labels closes.trees made.0
          (open_grown old one grows reader.forms closes.below reader.labels closes.trees closes.forms);
    }

-- the forms of a reader from which one ended
pub can_close : (old one : Values) (reader : Reader) (from : ℕ) (forms : List OpenForm) (items below : List ValueId) (labels : List ℕ) (all : List Thing) (trees : List OpenTree)
    → Grows old one → reader.forms ≡ forms → reader.items ≡ items → reader.labels ≡ labels → HasItems (table old) from items below all
    → IsOpen (names old) (table old) forms below labels trees → ClosesForms one reader from
can_close old one reader from forms items below labels all trees grows are_forms are_items are_labels has are = record {
  below = below;
  all = all;
  items = rw are_items (items_grown old one grows from items below all has);
  trees = trees;
  forms = rw (are_forms, are_labels) (open_grown old one grows forms below labels trees are);
}

-- a record ends
pub ends_record : (values : Values) (next : Expecting) (reader : Reader) (trees rest : List OpenTree) (labels : List Name) (all : List Thing)
    → trees ≡ InRecord labels all ∷ rest → Stands values next reader (put (Record (with_fields labels all NoField)) rest)
    → Leads (close_record trees) values (Some next) reader
ends_record values next reader trees rest labels all is stands =
    lead_some values next reader (close_record trees) (put (Record (with_fields labels all NoField)) rest) (ap close_record is) stands

-- a tag ends, and its content begins
pub ends_tag : (values : Values) (tag id : ValueId) (forms : List OpenForm) (items : List ValueId) (numbers : List ℕ) (name : Name) (trees rest : List OpenTree)
    (all : List Thing) (labels : List Name) → trees ≡ InTag name labels all ∷ rest
    → IsAt (table values) tag.0 (Atom name) → IsAt (table values) id.0 (Record (with_fields labels all NoField))
    → IsOpen (names values) (table values) forms items numbers rest
    → Led (close_tag trees) values expecting.Value (form.Content tag id ∷ forms) items numbers
ends_tag values tag id forms items numbers name trees rest all labels is tag_at id_at are = record {
  now = state AtValue (InContent name (with_fields labels all NoField) ∷ rest);
  is = ap close_tag is;
  stood = record {
    trees = InContent name (with_fields labels all NoField) ∷ rest;
    open_forms = the.content tag id name (with_fields labels all NoField) forms items numbers rest tag_at id_at are;
    is = refl;
    within = tt;
  };
}

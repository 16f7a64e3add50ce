-- A value ends the contents that it is.
use Rattle.std.proofs.Common.{◌≡◌, ◌∙◌, ap, subst, sym, refl, ℕ, ◌<◌, List, [], ◌∷◌, ◌++◌, length}
use Rattle.cd_syntax.specs.Name.{Name}
use Rattle.cd_model.specs.Thing.{Thing, Fields, Atom, Xml, Record, IsAtom, IsRecord}
use Rattle.cd_documents.specs.Machine.{OpenTree, State, state, put, InTuple, InSequence, InRecord, InTag}
use Rattle.cd_cells.specs.declared.values.Values.{Values}
use Rattle.cd_cells.specs.declared.cell.ValueId.{ValueId}
use Rattle.cd_cells.specs.Cells.{thing_at}
use Rattle.cd_cells.specs.Table.{table, names, IsAt, Grows}
use Rattle.cd_cells.proofs.TableGrows.{last_at}
use Rattle.cd_notation.specs.declared.form.OpenForm.{OpenForm}
use Rattle.cd_notation.specs.declared.form.OpenForm.TheVariants as form
use Rattle.cd_notation.specs.declared.form.Expecting.{Expecting}
use Rattle.cd_notation.specs.declared.form.Expecting.TheVariants as expecting
use Rattle.cd_notation.specs.declared.reader.Reader.{Reader}
use Rattle.cd_notation.specs.Inner.Open as the
use Rattle.cd_notation.specs.Inner.Open.{AreAt, IsTop, HasItems, IsOpen}
use Rattle.cd_notation.specs.Inner.Leading.{IsOpenIn, HasForms, Stands, after_value_in, plain_expecting, trees_at, IsWithin}
use Rattle.cd_cells.proofs.GrownTables.{further, itself}
use Rattle.cd_notation.proofs.Growth.{open_grown}

pub record StillPuts (values : Values) (forms : List OpenForm) (items : List ValueId) (labels : List ℕ) (value : ℕ) (made : State) : Type 0 where
  pub is : Thing
  pub trees : List OpenTree
  pub at : IsAt (table values) value is
  pub open_forms : IsOpen (names values) (table values) forms items labels trees
  pub makes : put is trees ≡ made

pub record IsPutting (old_values : Values) (old : Reader) (old_value : ℕ) (values : Values) (now : Reader) (value : ℕ) : Type 0 where
  pub going : (is : Thing) (trees : List OpenTree) → IsAt (table old_values) old_value is → IsOpenIn old_values old trees
      → StillPuts values now.forms now.items now.labels value (put is trees)
  pub grows : Grows old_values values

pub putting_starts : (values : Values) (reader : Reader) (value : ℕ) → IsPutting values reader value values reader value
putting_starts values reader value = record {
  going = λ is trees at forms. record { is = is; trees = trees; at = at; open_forms = forms; makes = refl };
  grows = itself values;
}

-- a content on the top
pub record HasContent (values : Values) (tag attributes : ℕ) (forms : List OpenForm) (items : List ValueId) (labels : List ℕ) (value : ℕ) (made : State) : Type 0 where
  pub name : Name
  pub all : Fields
  pub is : Thing
  pub trees : List OpenTree
  pub tag_at : IsAt (table values) tag (Atom name)
  pub attributes_at : IsAt (table values) attributes (Record all)
  pub at : IsAt (table values) value is
  pub open_forms : IsOpen (names values) (table values) forms items labels trees
  pub makes : put (Xml (Atom name) (Record all) is) trees ≡ made

pub content_of : (values : Values) (tag attributes : ValueId) (forms : List OpenForm) (items : List ValueId) (labels : List ℕ) (value : ℕ) (made : State)
    → StillPuts values (form.Content tag attributes ∷ forms) items labels value made → HasContent values tag.0 attributes.0 forms items labels value made
content_of values tag attributes forms items labels value made still = by still.trees still.open_forms still.makes
  where
    by : (trees : List OpenTree) → IsOpen (names values) (table values) (form.Content tag attributes ∷ forms) items labels trees → put still.is trees ≡ made
        → HasContent values tag.0 attributes.0 forms items labels value made
    by _ (the.content tag attributes name all forms items numbers trees tag_at attributes_at rest) makes = record {
      name = name;
      all = all;
      is = still.is;
      trees = trees;
      tag_at = tag_at;
      attributes_at = attributes_at;
      at = still.at;
      open_forms = rest;
      makes = makes;
    }

-- the content ends
pub still_puts : (one two : Values) (tag attributes : ValueId) (forms : List OpenForm) (items : List ValueId) (labels : List ℕ) (value id : ℕ) (made : State)
    → Grows one two → table two ≡ table one ++ Xml (thing_at (table one) tag.0) (thing_at (table one) attributes.0) (thing_at (table one) value) ∷ []
    → id ≡ length (table one) → StillPuts one (form.Content tag attributes ∷ forms) items labels value made → StillPuts two forms items labels id made
still_puts one two tag attributes forms items labels value id made grows is last still =
    let top = content_of one tag attributes forms items labels value made still in
    let xml : Xml (thing_at (table one) tag.0) (thing_at (table one) attributes.0) (thing_at (table one) value) ≡ Xml (Atom top.name) (Record top.all) top.is =
    cc (top.tag_at.is, top.attributes_at.is, top.at.is) in
    record {
      is = Xml (Atom top.name) (Record top.all) top.is;
      trees = top.trees;
      at = last_at (table one) (table two) id (Xml (Atom top.name) (Record top.all) top.is) (is ∙ ap (λ (new : Thing). table one ++ new ∷ []) xml) last;
      open_forms = open_grown one two grows forms items labels top.trees top.open_forms;
      makes = top.makes;
    }

-- a state of the machine, by the lists of a reader
pub record Stood (values : Values) (next : Expecting) (forms : List OpenForm) (items : List ValueId) (labels : List ℕ) (made : State) : Type 0 where
  pub trees : List OpenTree
  pub open_forms : IsOpen (names values) (table values) forms items labels trees
  pub is : made ≡ state (plain_expecting (table values) next) (trees_at next trees)
  pub within : IsWithin (table values) next

pub stands_by : (values : Values) (next : Expecting) (reader : Reader) (forms : List OpenForm) (items : List ValueId) (labels : List ℕ) (made : State)
    → reader.forms ≡ forms → reader.items ≡ items → reader.labels ≡ labels → Stood values next forms items labels made → Stands values next reader made
stands_by values next reader forms items labels made are_forms are_items are_labels stood = record {
  trees = stood.trees;
  forms = rw (are_forms, are_items, are_labels) stood.open_forms;
  is = stood.is;
  within = stood.within;
}

none_open : (labels_of : List Name) (table : List Thing) (forms : List OpenForm) (items : List ValueId) (labels : List ℕ) (trees : List OpenTree)
    → IsOpen labels_of table forms items labels trees → forms ≡ [] → trees ≡ []
none_open names table _ _ _ _ the.nothing none = refl
none_open names table _ _ _ _ (the.tuple from forms items below labels values trees has rest) none = absurd (cc none)
none_open names table _ _ _ _ (the.sequence from forms items below labels values trees has rest) none = absurd (cc none)
none_open names table _ _ _ _ (the.fields first from forms items below numbers below_numbers labels values trees named has rest) none = absurd (cc none)
none_open names table _ _ _ _ (the.tag tag name first from forms items below numbers below_numbers labels values trees at named has rest) none = absurd (cc none)
none_open names table _ _ _ _ (the.content tag attributes name all forms items numbers trees at at_attributes rest) none = absurd (cc none)

-- the value is the whole
pub puts_whole : (values : Values) (forms : List OpenForm) (items : List ValueId) (labels : List ℕ) (value : ValueId) (made : State) → forms ≡ []
    → StillPuts values forms items labels value.0 made → Stood values (expecting.Nothing value) forms items labels made
puts_whole values forms items labels value made none still =
    let no_trees : still.trees ≡ [] = none_open (names values) (table values) forms items labels still.trees still.open_forms none in
    record {
      trees = still.trees;
      open_forms = still.open_forms;
      is = sym still.makes ∙ ap (put still.is) no_trees ∙ cc (still.at.is, no_trees);
      within = still.at.within;
    }

pub pushed : (table : List Thing) (from : ℕ) (items below : List ValueId) (values : List Thing) (id : ValueId) (value : Thing) → IsAt table id.0 value
    → HasItems table from items below values → HasItems table from (id ∷ items) below (value ∷ values)
pushed table from items below values id value at has = record {
  top = id ∷ has.top;
  is = record { is = ap (λ (all : List ValueId). id ∷ all) has.is.is; under = has.is.under };
  at = the.AreAt.one id value has.top values at has.at;
}

-- the value is a part of a form
pub puts_part : (values : Values) (one : OpenForm) (forms : List OpenForm) (items : List ValueId) (labels : List ℕ) (value : ValueId) (made : State)
    → ((tag attributes : ValueId) → one ≡ form.Content tag attributes → ⊥)
    → StillPuts values (one ∷ forms) items labels value.0 made → Stood values (after_value_in one) (one ∷ forms) (value ∷ items) labels made
puts_part values one forms items labels value made no_content still = by one still.trees no_content still.open_forms still.makes
  where
    by : (one : OpenForm) (trees : List OpenTree) → ((tag attributes : ValueId) → one ≡ form.Content tag attributes → ⊥)
        → IsOpen (names values) (table values) (one ∷ forms) items labels trees → put still.is trees ≡ made
        → Stood values (after_value_in one) (one ∷ forms) (value ∷ items) labels made
    by _ _ no_content (the.tuple from forms items below labels before trees has rest) makes = record {
      trees = InTuple (still.is ∷ before) ∷ trees;
      open_forms = the.tuple from forms (value ∷ items) below labels (still.is ∷ before) trees (pushed (table values) from items below before value still.is still.at has) rest;
      is = sym makes;
      within = tt;
    }
    by _ _ no_content (the.sequence from forms items below labels before trees has rest) makes = record {
      trees = InSequence (still.is ∷ before) ∷ trees;
      open_forms = the.sequence from forms (value ∷ items) below labels (still.is ∷ before) trees (pushed (table values) from items below before value still.is still.at has) rest;
      is = sym makes;
      within = tt;
    }
    by _ _ no_content (the.fields first from forms items below numbers below_numbers labels before trees named has rest) makes = record {
      trees = InRecord labels (still.is ∷ before) ∷ trees;
      open_forms = the.fields first from forms (value ∷ items) below numbers below_numbers labels (still.is ∷ before) trees named
          (pushed (table values) from items below before value still.is still.at has) rest;
      is = sym makes;
      within = tt;
    }
    by _ _ no_content (the.tag tag name first from forms items below numbers below_numbers labels before trees at named has rest) makes = record {
      trees = InTag name labels (still.is ∷ before) ∷ trees;
      open_forms = the.tag tag name first from forms (value ∷ items) below numbers below_numbers labels (still.is ∷ before) trees at named
          (pushed (table values) from items below before value still.is still.at has) rest;
      is = sym makes;
      within = tt;
    }
    by _ _ no_content (the.content tag attributes name all forms items numbers trees at at_attributes rest) makes = absurd (no_content tag attributes refl)

pub puts_on : (old_values one two : Values) (old now new : Reader) (old_value value id : ℕ) (tag attributes : ValueId) (rest : List OpenForm)
    → IsPutting old_values old old_value one now value → now.forms ≡ form.Content tag attributes ∷ rest → new.forms ≡ rest → new.items ≡ now.items → new.labels ≡ now.labels
    → Grows one two → table two ≡ table one ++ Xml (thing_at (table one) tag.0) (thing_at (table one) attributes.0) (thing_at (table one) value) ∷ []
    → id ≡ length (table one) → IsPutting old_values old old_value two new id
puts_on old_values one two old now new old_value value id tag attributes rest so_far top rest_is same_items same_labels grows is last = record {
  going = λ it trees at are.
      let still = still_puts one two tag attributes rest now.items now.labels value id (put it trees) grows is last
      (subst (λ (forms : List OpenForm). StillPuts one forms now.items now.labels value (put it trees)) top (so_far.going it trees at are)) in
      rw (rest_is, same_items, same_labels) still;
  grows = further old_values one two so_far.grows grows;
}

-- what an XML value requires
pub record XmlFits (all : List Thing) (tag attributes value : ℕ) : Type 0 where
  pub tag_within : tag < length all
  pub attributes_within : attributes < length all
  pub value_within : value < length all
  pub atom : IsAtom (thing_at all tag)
  pub fields : IsRecord (thing_at all attributes)

pub xml_fits : (old_values one : Values) (old now : Reader) (old_value value : ℕ) (tag attributes : ValueId) (rest : List OpenForm)
    → IsPutting old_values old old_value one now value → old_value < length (table old_values) → HasForms old_values old
    → now.forms ≡ form.Content tag attributes ∷ rest → XmlFits (table one) tag.0 attributes.0 value
xml_fits old_values one old now old_value value tag attributes rest so_far within has top =
    let it = thing_at (table old_values) old_value in
    let still = so_far.going it has.0 record { within = within; is = refl } has.1 in
    let content = content_of one tag attributes rest now.items now.labels value (put it has.0)
    (subst (λ (forms : List OpenForm). StillPuts one forms now.items now.labels value (put it has.0)) top still) in
    record {
      tag_within = content.tag_at.within;
      attributes_within = content.attributes_at.within;
      value_within = content.at.within;
      atom = subst IsAtom (sym content.tag_at.is) tt;
      fields = subst IsRecord (sym content.attributes_at.is) tt;
    }

-- the value is a part of the form on the top
pub stands_in : (values : Values) (next : Expecting) (now new : Reader) (one : OpenForm) (rest : List OpenForm) (value : ValueId) (made : State)
    → now.forms ≡ one ∷ rest → ((tag attributes : ValueId) → one ≡ form.Content tag attributes → ⊥) → new.forms ≡ now.forms → new.items ≡ value ∷ now.items → new.labels ≡ now.labels
    → next ≡ after_value_in one → StillPuts values now.forms now.items now.labels value.0 made → Stands values next new made
stands_in values next now new one rest value made top no_content same_forms pushed same_labels is still =
    subst (λ (next : Expecting). Stands values next new made) (sym is)
    (stands_by values (after_value_in one) new (one ∷ rest) (value ∷ now.items) now.labels made (same_forms ∙ top) pushed same_labels
    (puts_part values one rest now.items now.labels value made no_content
    (subst (λ (forms : List OpenForm). StillPuts values forms now.items now.labels value.0 made) top still)))

-- Where a reader goes on from the forms that are open.
use Rattle.std.proofs.Common.{◌≡◌, ◌∙◌, ap, subst, sym, refl, arith, ℕ, suc, ◌≤◌, Bool, true, false, List, [], ◌∷◌, ◌++◌, Option, Some, None, length}
use Rattle.std.specs.Prelude.{if◌then◌else◌, not}
use Rattle.std.proofs.Common.{leb, ltb, Decides, true≢false, ◌<◌, ◌⊎◌, inl, inr}
use Rattle.std.proofs.lemmas.Bool.Decides.{leb_tells, Decides-ltb}
use Rattle.cd_syntax.specs.Name.{Name, only}
use Rattle.cd_model.specs.Thing.{Thing, Atom, Character}
use Rattle.cd_documents.specs.Document.{the_nil, is_among}
use Rattle.cd_documents.specs.Terminal as plain
use Rattle.cd_documents.specs.Terminal.{Terminal}
use Rattle.cd_documents.specs.Machine.{OpenTree, State, state, InTuple, InSequence, InRecord, InTag, AtValue, AtItem, AtField, AtAttribute, AtEqual, put, pairs, letters_onto, at_value, at_item, after_part, label_of, close_record, close_tag}
use Rattle.cd_cells.specs.declared.values.Values.{Values}
use Rattle.cd_cells.specs.declared.cell.ValueId.{ValueId}
use Rattle.cd_cells.specs.Cells.{HasEachOnce}
use Rattle.cd_cells.specs.Table.{table, names, IsAt, Grows}
use Rattle.cd_notation.specs.Open.{is_label_of}
use Rattle.cd_notation.specs.declared.form.OpenForm.{OpenForm}
use Rattle.cd_notation.specs.declared.form.OpenForm.TheVariants as form
use Rattle.cd_notation.specs.declared.form.Expecting.{Expecting}
use Rattle.cd_notation.specs.declared.form.Expecting.TheVariants as expecting
use Rattle.cd_notation.specs.declared.reader.Reader.{Reader}
use Rattle.cd_notation.specs.Inner.Open as the
use Rattle.cd_notation.specs.Inner.Open.{AreAt, IsLabelAt, AreLabelsAt, AreDistinct, IsTop, HasItems, HasLabels, IsOpen}
use Rattle.cd_notation.specs.Inner.Leading.{Stands, Leads, HasLetters, labels_from, trees_at}
use Rattle.cd_cells.proofs.GrownTables.{at_grown}
use Rattle.cd_notation.proofs.Growth.{items_grown, all_labels_grown, open_grown}
use Rattle.cd_notation.proofs.Putting.{Stood, stands_by}
use Rattle.cd_notation.proofs.Parts.{same_test}
use Rattle.cd_notation.proofs.Lettering.{more_letters}

pub lead_some : (values : Values) (next : Expecting) (reader : Reader) (made : Option State) (now : State) → made ≡ Some now → Stands values next reader now
    → Leads made values (Some next) reader
lead_some values next reader made now is stands = subst (λ (made : Option State). Leads made values (Some next) reader) (sym is) stands

pub lead_none : (values : Values) (reader : Reader) (made : Option State) → made ≡ None → Leads made values None reader
lead_none values reader made is = subst (λ (made : Option State). Leads made values None reader) (sym is) tt

-- a form without items and labels
no_items : (table : List Thing) (from : ℕ) (items : List ValueId) → from ≡ length items → HasItems table from items items []
no_items table from items is = record { top = []; is = record { is = refl; under = is }; at = the.AreAt.none }

no_labels : (names : List Name) (from : ℕ) (numbers : List ℕ) → from ≡ length numbers → HasLabels names from numbers numbers []
no_labels names from numbers is = record { top = []; is = record { is = refl; under = is }; at = the.AreLabelsAt.none; apart = tt }

module _ (values : Values) (forms : List OpenForm) (items : List ValueId) (labels : List ℕ) (trees : List OpenTree)
    (are : IsOpen (names values) (table values) forms items labels trees) where
  pub opened_tuple : (from : ℕ) → from ≡ length items → Stood values expecting.Value (form.Tuple from ∷ forms) items labels (state AtValue (InTuple [] ∷ trees))
  opened_tuple from is = record {
    trees = InTuple [] ∷ trees;
    open_forms = the.tuple from forms items items labels [] trees (no_items (table values) from items is) are;
    is = refl;
    within = tt;
  }

  pub opened_sequence : (from : ℕ) → from ≡ length items → Stood values expecting.Item (form.Sequence from ∷ forms) items labels (state AtItem (InSequence [] ∷ trees))
  opened_sequence from is = record {
    trees = InSequence [] ∷ trees;
    open_forms = the.sequence from forms items items labels [] trees (no_items (table values) from items is) are;
    is = refl;
    within = tt;
  }

  pub opened_record : (first from : ℕ) → first ≡ length labels → from ≡ length items
      → Stood values expecting.Field (form.Record first from ∷ forms) items labels (state AtField (InRecord [] [] ∷ trees))
  opened_record first from is_first is = record {
    trees = InRecord [] [] ∷ trees;
    open_forms = the.fields first from forms items items labels labels [] [] trees (no_labels (names values) first labels is_first)
        (no_items (table values) from items is) are;
    is = refl;
    within = tt;
  }

  pub opened_tag : (tag : ValueId) (name : Name) (first from : ℕ) → IsAt (table values) tag.0 (Atom name) → first ≡ length labels → from ≡ length items
      → Stood values expecting.Attribute (form.Tag tag first from ∷ forms) items labels (state AtAttribute (InTag name [] [] ∷ trees))
  opened_tag tag name first from at is_first is = record {
    trees = InTag name [] [] ∷ trees;
    open_forms = the.tag tag name first from forms items items labels labels [] [] trees at (no_labels (names values) first labels is_first)
        (no_items (table values) from items is) are;
    is = refl;
    within = tt;
  }

-- the form on the top
module _ (labels_named : List Name) (table : List Thing) where
  pub record OverTuple (from : ℕ) (forms : List OpenForm) (items : List ValueId) (labels : List ℕ) (trees : List OpenTree) : Type 0 where
    pub below : List ValueId
    pub values : List Thing
    pub rest : List OpenTree
    pub is : trees ≡ InTuple values ∷ rest
    pub has : HasItems table from items below values
    pub others : IsOpen labels_named table forms below labels rest

  pub over_tuple : (from : ℕ) (forms : List OpenForm) (items : List ValueId) (labels : List ℕ) (trees : List OpenTree)
      → IsOpen labels_named table (form.Tuple from ∷ forms) items labels trees → OverTuple from forms items labels trees
  over_tuple _ _ _ _ _ (the.tuple from forms items below labels values trees has rest) =
      record { below = below; values = values; rest = trees; is = refl; has = has; others = rest }

  pub record OverSequence (from : ℕ) (forms : List OpenForm) (items : List ValueId) (labels : List ℕ) (trees : List OpenTree) : Type 0 where
    pub below : List ValueId
    pub values : List Thing
    pub rest : List OpenTree
    pub is : trees ≡ InSequence values ∷ rest
    pub has : HasItems table from items below values
    pub others : IsOpen labels_named table forms below labels rest

  pub over_sequence : (from : ℕ) (forms : List OpenForm) (items : List ValueId) (labels : List ℕ) (trees : List OpenTree)
      → IsOpen labels_named table (form.Sequence from ∷ forms) items labels trees → OverSequence from forms items labels trees
  over_sequence _ _ _ _ _ (the.sequence from forms items below labels values trees has rest) =
      record { below = below; values = values; rest = trees; is = refl; has = has; others = rest }

  pub record OverRecord (first from : ℕ) (forms : List OpenForm) (items : List ValueId) (numbers : List ℕ) (trees : List OpenTree) : Type 0 where
    pub below : List ValueId
    pub below_numbers : List ℕ
    pub labels : List Name
    pub values : List Thing
    pub rest : List OpenTree
    pub is : trees ≡ InRecord labels values ∷ rest
    pub named : HasLabels labels_named first numbers below_numbers labels
    pub has : HasItems table from items below values
    pub others : IsOpen labels_named table forms below below_numbers rest

  pub over_record : (first from : ℕ) (forms : List OpenForm) (items : List ValueId) (numbers : List ℕ) (trees : List OpenTree)
      → IsOpen labels_named table (form.Record first from ∷ forms) items numbers trees → OverRecord first from forms items numbers trees
  over_record _ _ _ _ _ _ (the.fields first from forms items below numbers below_numbers labels values trees named has rest) = record {
    below = below;
    below_numbers = below_numbers;
    labels = labels;
    values = values;
    rest = trees;
    is = refl;
    named = named;
    has = has;
    others = rest;
  }

  pub record OverTag (tag first from : ℕ) (forms : List OpenForm) (items : List ValueId) (numbers : List ℕ) (trees : List OpenTree) : Type 0 where
    pub name : Name
    pub below : List ValueId
    pub below_numbers : List ℕ
    pub labels : List Name
    pub values : List Thing
    pub rest : List OpenTree
    pub is : trees ≡ InTag name labels values ∷ rest
    pub at : IsAt table tag (Atom name)
    pub named : HasLabels labels_named first numbers below_numbers labels
    pub has : HasItems table from items below values
    pub others : IsOpen labels_named table forms below below_numbers rest

  pub over_tag : (tag : ValueId) (first from : ℕ) (forms : List OpenForm) (items : List ValueId) (numbers : List ℕ) (trees : List OpenTree)
      → IsOpen labels_named table (form.Tag tag first from ∷ forms) items numbers trees → OverTag tag.0 first from forms items numbers trees
  over_tag _ _ _ _ _ _ _ (the.tag tag name first from forms items below numbers below_numbers labels values trees at named has rest) = record {
    name = name;
    below = below;
    below_numbers = below_numbers;
    labels = labels;
    values = values;
    rest = trees;
    is = refl;
    at = at;
    named = named;
    has = has;
    others = rest;
  }

  -- another form on the top, or none
  pub no_sequence : (forms : List OpenForm) (items : List ValueId) (labels : List ℕ) (trees : List OpenTree) → IsOpen labels_named table forms items labels trees
      → ((from : ℕ) (rest : List OpenForm) → forms ≡ form.Sequence from ∷ rest → ⊥) → (is : Terminal) → at_item trees is ≡ at_value trees is
  no_sequence _ _ _ _ the.nothing other is = refl
  no_sequence _ _ _ _ (the.tuple from forms items below labels values trees has rest) other is = refl
  no_sequence _ _ _ _ (the.sequence from forms items below labels values trees has rest) other is = absurd (other from forms refl)
  no_sequence _ _ _ _ (the.fields first from forms items below numbers below_numbers labels values trees named has rest) other is = refl
  no_sequence _ _ _ _ (the.tag tag name first from forms items below numbers below_numbers labels values trees at named has rest) other is = refl
  no_sequence _ _ _ _ (the.content tag attributes name all forms items numbers trees at at_attributes rest) other is = refl

  pub no_tuple : (forms : List OpenForm) (items : List ValueId) (labels : List ℕ) (trees : List OpenTree) → IsOpen labels_named table forms items labels trees
      → ((from : ℕ) (rest : List OpenForm) → forms ≡ form.Tuple from ∷ rest → ⊥) → after_part trees plain.CloseTuple ≡ None
  no_tuple _ _ _ _ the.nothing other = refl
  no_tuple _ _ _ _ (the.tuple from forms items below labels values trees has rest) other = absurd (other from forms refl)
  no_tuple _ _ _ _ (the.sequence from forms items below labels values trees has rest) other = refl
  no_tuple _ _ _ _ (the.fields first from forms items below numbers below_numbers labels values trees named has rest) other = refl
  no_tuple _ _ _ _ (the.tag tag name first from forms items below numbers below_numbers labels values trees at named has rest) other = refl
  no_tuple _ _ _ _ (the.content tag attributes name all forms items numbers trees at at_attributes rest) other = refl

  pub no_record : (forms : List OpenForm) (items : List ValueId) (labels : List ℕ) (trees : List OpenTree) → IsOpen labels_named table forms items labels trees
      → ((first from : ℕ) (rest : List OpenForm) → forms ≡ form.Record first from ∷ rest → ⊥) → close_record trees ≡ None
  no_record _ _ _ _ the.nothing other = refl
  no_record _ _ _ _ (the.tuple from forms items below labels values trees has rest) other = refl
  no_record _ _ _ _ (the.sequence from forms items below labels values trees has rest) other = refl
  no_record _ _ _ _ (the.fields first from forms items below numbers below_numbers labels values trees named has rest) other = absurd (other first from forms refl)
  no_record _ _ _ _ (the.tag tag name first from forms items below numbers below_numbers labels values trees at named has rest) other = refl
  no_record _ _ _ _ (the.content tag attributes name all forms items numbers trees at at_attributes rest) other = refl

  pub no_tag : (forms : List OpenForm) (items : List ValueId) (labels : List ℕ) (trees : List OpenTree) → IsOpen labels_named table forms items labels trees
      → ((tag : ValueId) (first from : ℕ) (rest : List OpenForm) → forms ≡ form.Tag tag first from ∷ rest → ⊥) → close_tag trees ≡ None
  no_tag _ _ _ _ the.nothing other = refl
  no_tag _ _ _ _ (the.tuple from forms items below labels values trees has rest) other = refl
  no_tag _ _ _ _ (the.sequence from forms items below labels values trees has rest) other = refl
  no_tag _ _ _ _ (the.fields first from forms items below numbers below_numbers labels values trees named has rest) other = refl
  no_tag _ _ _ _ (the.tag tag name first from forms items below numbers below_numbers labels values trees at named has rest) other = absurd (other tag first from forms refl)
  no_tag _ _ _ _ (the.content tag attributes name all forms items numbers trees at at_attributes rest) other = refl

  -- a form without labels
  pub no_label : (one : OpenForm) (forms : List OpenForm) (items : List ValueId) (labels : List ℕ) (trees : List OpenTree) (label : Name)
      → IsOpen labels_named table (one ∷ forms) items labels trees → labels_from one ≡ None → label_of trees label ≡ None
  no_label _ _ _ _ _ label (the.tuple from forms items below labels values trees has rest) none = refl
  no_label _ _ _ _ _ label (the.sequence from forms items below labels values trees has rest) none = refl
  no_label _ _ _ _ _ label (the.fields first from forms items below numbers below_numbers labels values trees named has rest) none = absurd (cc none)
  no_label _ _ _ _ _ label (the.tag tag name first from forms items below numbers below_numbers labels values trees at named has rest) none = absurd (cc none)
  no_label _ _ _ _ _ label (the.content tag attributes name all forms items numbers trees at at_attributes rest) none = refl

  pub none_label : (forms : List OpenForm) (items : List ValueId) (labels : List ℕ) (trees : List OpenTree) (label : Name)
      → IsOpen labels_named table forms items labels trees → forms ≡ [] → label_of trees label ≡ None
  none_label _ _ _ _ label the.nothing none = refl
  none_label _ _ _ _ label (the.tuple from forms items below labels values trees has rest) none = absurd (cc none)
  none_label _ _ _ _ label (the.sequence from forms items below labels values trees has rest) none = absurd (cc none)
  none_label _ _ _ _ label (the.fields first from forms items below numbers below_numbers labels values trees named has rest) none = absurd (cc none)
  none_label _ _ _ _ label (the.tag tag name first from forms items below numbers below_numbers labels values trees at named has rest) none = absurd (cc none)
  none_label _ _ _ _ label (the.content tag attributes name all forms items numbers trees at at_attributes rest) none = absurd (cc none)

  -- as many forms as the machine has
  pub as_many : (forms : List OpenForm) (items : List ValueId) (labels : List ℕ) (trees : List OpenTree) → IsOpen labels_named table forms items labels trees
      → length trees ≡ length forms
  as_many _ _ _ _ the.nothing = refl
  as_many _ _ _ _ (the.tuple from forms items below labels values trees has rest) = ap suc (as_many forms below labels trees rest)
  as_many _ _ _ _ (the.sequence from forms items below labels values trees has rest) = ap suc (as_many forms below labels trees rest)
  as_many _ _ _ _ (the.fields first from forms items below numbers below_numbers labels values trees named has rest) =
      ap suc (as_many forms below below_numbers trees rest)
  as_many _ _ _ _ (the.tag tag name first from forms items below numbers below_numbers labels values trees at named has rest) =
      ap suc (as_many forms below below_numbers trees rest)
  as_many _ _ _ _ (the.content tag attributes name all forms items numbers trees at at_attributes rest) = ap suc (as_many forms items numbers trees rest)

-- a step that leads on, by the lists of a reader
pub record Led (made : Option State) (values : Values) (next : Expecting) (forms : List OpenForm) (items : List ValueId) (labels : List ℕ) : Type 0 where
  pub now : State
  pub is : made ≡ Some now
  pub stood : Stood values next forms items labels now

pub leads_by : (made : Option State) (values : Values) (next : Expecting) (reader : Reader) (forms : List OpenForm) (items : List ValueId) (labels : List ℕ)
    → reader.forms ≡ forms → reader.items ≡ items → reader.labels ≡ labels → Led made values next forms items labels → Leads made values (Some next) reader
leads_by made values next reader forms items labels are_forms are_items are_labels led =
    lead_some values next reader made led.now led.is (stands_by values next reader forms items labels led.now are_forms are_items are_labels led.stood)

-- characters in a sequence
pub letters_in : (one two : Values) (from : ℕ) (forms : List OpenForm) (items new : List ValueId) (labels : List ℕ) (trees : List OpenTree) (cs : List ℕ)
    → IsOpen (names one) (table one) (form.Sequence from ∷ forms) items labels trees → Grows one two → HasLetters (table two) cs items new
    → Led (at_item trees (plain.Letters cs)) two expecting.Item (form.Sequence from ∷ forms) new labels
letters_in one two from forms items new labels trees cs are grows letters =
    let top = over_sequence (names one) (table one) from forms items labels trees are in
    record {
      now = state AtItem (InSequence (letters_onto cs top.values) ∷ top.rest);
      is = ap (λ (list : List OpenTree). at_item list (plain.Letters cs)) top.is;
      stood = record {
        trees = InSequence (letters_onto cs top.values) ∷ top.rest;
        open_forms = the.sequence from forms new top.below labels (letters_onto cs top.values) top.rest
            (more_letters (table two) cs from items new top.below top.values letters (items_grown one two grows from items top.below top.values top.has))
            (open_grown one two grows forms top.below labels top.rest top.others);
        is = refl;
        within = tt;
      };
    }

-- a label that is new, or stands twice
module _ (one two : Values) (first number : ℕ) (label : Name) (forms : List OpenForm) (items : List ValueId) (labels : List ℕ)
    (grows : Grows one two) (at : IsLabelAt (names two) number label) (once : HasEachOnce (names two)) where
  abbrev IsFresh : List ℕ → Type 0
  IsFresh new = (top below : List ℕ) → labels ≡ top ++ below → first ≡ length below → (is_label_of number top ≡ false) × (new ≡ number ∷ labels)

  abbrev IsAgain : Type 0
  IsAgain = (top below : List ℕ) → labels ≡ top ++ below → first ≡ length below → is_label_of number top ≡ true

  new_labels : (below : List ℕ) (named : List Name) (new : List ℕ) → HasLabels (names two) first labels below named → IsFresh new
      → (is_among label named ≡ false) × HasLabels (names two) first new below (label ∷ named)
  new_labels below named new has fresh =
      let added = fresh has.top below has.is.is has.is.under in
      let apart : is_among label named ≡ false = sym (same_test (names two) (table two) once number label has.top named at has.at) ∙ added.0 in (
        apart,
        record {
          top = number ∷ has.top;
          is = record { is = added.1 ∙ ap (λ (list : List ℕ). number ∷ list) has.is.is; under = has.is.under };
          at = the.AreLabelsAt.one number label has.top named at has.at;
          apart = (apart, has.apart);
        },
      )

  old_label : (below : List ℕ) (named : List Name) → HasLabels (names two) first labels below named → IsAgain → is_among label named ≡ true
  old_label below named has again = sym (same_test (names two) (table two) once number label has.top named at has.at) ∙ again has.top below has.is.is has.is.under

  pub adds_label : (form : OpenForm) (trees : List OpenTree) (new : List ℕ) → IsOpen (names one) (table one) (form ∷ forms) items labels trees → labels_from form ≡ Some first
      → IsFresh new → Led (label_of trees label) two expecting.Equal (form ∷ forms) items new
  adds_label _ _ new (the.tuple from forms items below labels values trees has rest) from_here fresh = absurd (cc from_here)
  adds_label _ _ new (the.sequence from forms items below labels values trees has rest) from_here fresh = absurd (cc from_here)
  adds_label _ _ new (the.fields start from forms items below numbers below_numbers named values trees has_labels has rest) from_here fresh =
      let here : start ≡ first = cc from_here in
      let grown = all_labels_grown one two grows start numbers below_numbers named has_labels in
      let more = new_labels below_numbers named new (subst (λ (n : ℕ). HasLabels (names two) n labels below_numbers named) here grown) fresh in
      record {
        now = state AtEqual (InRecord (label ∷ named) values ∷ trees);
        is = ap (λ (b : Bool). if b then None else Some (state AtEqual (InRecord (label ∷ named) values ∷ trees))) more.0;
        stood = record {
          trees = InRecord (label ∷ named) values ∷ trees;
          open_forms = the.fields start from forms items below new below_numbers (label ∷ named) values trees
              (subst (λ (n : ℕ). HasLabels (names two) n new below_numbers (label ∷ named)) (sym here) more.1)
              (items_grown one two grows from items below values has) (open_grown one two grows forms below below_numbers trees rest);
          is = refl;
          within = tt;
        };
      }
  adds_label _ _ new (the.tag tag name start from forms items below numbers below_numbers named values trees tag_at has_labels has rest) from_here fresh =
      let here : start ≡ first = cc from_here in
      let grown = all_labels_grown one two grows start numbers below_numbers named has_labels in
      let more = new_labels below_numbers named new (subst (λ (n : ℕ). HasLabels (names two) n labels below_numbers named) here grown) fresh in
      record {
        now = state AtEqual (InTag name (label ∷ named) values ∷ trees);
        is = ap (λ (b : Bool). if b then None else Some (state AtEqual (InTag name (label ∷ named) values ∷ trees))) more.0;
        stood = record {
          trees = InTag name (label ∷ named) values ∷ trees;
          open_forms = the.tag tag name start from forms items below new below_numbers (label ∷ named) values trees (at_grown one two grows tag.0 (Atom name) tag_at)
              (subst (λ (n : ℕ). HasLabels (names two) n new below_numbers (label ∷ named)) (sym here) more.1)
              (items_grown one two grows from items below values has) (open_grown one two grows forms below below_numbers trees rest);
          is = refl;
          within = tt;
        };
      }
  adds_label _ _ new (the.content tag attributes name all forms items numbers trees at at_attributes rest) from_here fresh = absurd (cc from_here)

  pub refuses_label : (form : OpenForm) (trees : List OpenTree) → IsOpen (names one) (table one) (form ∷ forms) items labels trees → labels_from form ≡ Some first → IsAgain
      → label_of trees label ≡ None
  refuses_label _ _ (the.tuple from forms items below labels values trees has rest) from_here again = absurd (cc from_here)
  refuses_label _ _ (the.sequence from forms items below labels values trees has rest) from_here again = absurd (cc from_here)
  refuses_label _ _ (the.fields start from forms items below numbers below_numbers named values trees has_labels has rest) from_here again =
      let here : start ≡ first = cc from_here in
      let grown = all_labels_grown one two grows start numbers below_numbers named has_labels in
      ap (λ (b : Bool). if b then None else Some (state AtEqual (InRecord (label ∷ named) values ∷ trees)))
      (old_label below_numbers named (subst (λ (n : ℕ). HasLabels (names two) n labels below_numbers named) here grown) again)
  refuses_label _ _ (the.tag tag name start from forms items below numbers below_numbers named values trees tag_at has_labels has rest) from_here again =
      let here : start ≡ first = cc from_here in
      let grown = all_labels_grown one two grows start numbers below_numbers named has_labels in
      ap (λ (b : Bool). if b then None else Some (state AtEqual (InTag name (label ∷ named) values ∷ trees)))
      (old_label below_numbers named (subst (λ (n : ℕ). HasLabels (names two) n labels below_numbers named) here grown) again)
  refuses_label _ _ (the.content tag attributes name all forms items numbers trees at at_attributes rest) from_here again = absurd (cc from_here)

pub same_count : (next : Expecting) (trees : List OpenTree) → (next ≡ expecting.Tag → ⊥) → length trees ≡ length (trees_at next trees)
same_count expecting.Value trees other = refl
same_count expecting.Item trees other = refl
same_count expecting.AfterPart trees other = refl
same_count expecting.Field trees other = refl
same_count expecting.AfterField trees other = refl
same_count expecting.Tag trees other = absurd (other refl)
same_count expecting.Attribute trees other = refl
same_count expecting.AfterAttribute trees other = refl
same_count expecting.Equal trees other = refl
same_count (expecting.Nothing id) trees other = refl

pub one_letter : (trees : List OpenTree) (cs : List ℕ) (c : ℕ) → only cs ≡ Some c → at_value trees (plain.Letters cs) ≡ Some (put (Character c) trees)
one_letter trees [] c is = absurd (cc is)
one_letter trees (one ∷ []) c is =
    let same : one ≡ c = cc is in
    ap (λ (c : ℕ). Some (put (Character c) trees)) same
one_letter trees (one ∷ two ∷ cs) c is = absurd (cc is)

pub head_is : (one two : OpenForm) (all rest others : List OpenForm) → all ≡ one ∷ rest → all ≡ two ∷ others → one ≡ two
head_is one two all rest others is other = cc (is, other)

-- the upper part is empty
pub open_at : (labels_named : List Name) (table : List Thing) (forms : List OpenForm) (items new : List ValueId) (labels : List ℕ) (trees : List OpenTree) → new ≡ items
    → IsOpen labels_named table forms items labels trees → IsOpen labels_named table forms new labels trees
open_at names table forms items new labels trees is are = subst (λ (list : List ValueId). IsOpen names table forms list labels trees) (sym is) are

pub no_head : (one : OpenForm) (all rest : List OpenForm) → all ≡ [] → all ≡ one ∷ rest → ⊥
no_head one all rest none is = absurd (cc (none, is))

pub forms_at : (labels_named : List Name) (table : List Thing) (forms new : List OpenForm) (items : List ValueId) (labels : List ℕ) (trees : List OpenTree) → new ≡ forms
    → IsOpen labels_named table forms items labels trees → IsOpen labels_named table new items labels trees
forms_at names table forms new items labels trees is are = subst (λ (list : List OpenForm). IsOpen names table list items labels trees) (sym is) are

module _ (labels_named : List Name) (table : List Thing) where
  pub over_top_tuple : (from : ℕ) (forms all : List OpenForm) (items : List ValueId) (labels : List ℕ) (trees : List OpenTree) → all ≡ form.Tuple from ∷ forms
      → IsOpen labels_named table all items labels trees → OverTuple labels_named table from forms items labels trees
  over_top_tuple from forms all items labels trees is are =
      over_tuple labels_named table from forms items labels trees (subst (λ (list : List OpenForm). IsOpen labels_named table list items labels trees) is are)

  pub over_top_sequence : (from : ℕ) (forms all : List OpenForm) (items : List ValueId) (labels : List ℕ) (trees : List OpenTree) → all ≡ form.Sequence from ∷ forms
      → IsOpen labels_named table all items labels trees → OverSequence labels_named table from forms items labels trees
  over_top_sequence from forms all items labels trees is are =
      over_sequence labels_named table from forms items labels trees (subst (λ (list : List OpenForm). IsOpen labels_named table list items labels trees) is are)

  pub over_top_record : (first from : ℕ) (forms all : List OpenForm) (items : List ValueId) (labels : List ℕ) (trees : List OpenTree) → all ≡ form.Record first from ∷ forms
      → IsOpen labels_named table all items labels trees → OverRecord labels_named table first from forms items labels trees
  over_top_record first from forms all items labels trees is are =
      over_record labels_named table first from forms items labels trees (subst (λ (list : List OpenForm). IsOpen labels_named table list items labels trees) is are)

  pub over_top_tag : (tag : ValueId) (first from : ℕ) (forms all : List OpenForm) (items : List ValueId) (labels : List ℕ) (trees : List OpenTree) → all ≡ form.Tag tag first from ∷ forms
      → IsOpen labels_named table all items labels trees → OverTag labels_named table tag.0 first from forms items labels trees
  over_top_tag tag first from forms all items labels trees is are =
      over_tag labels_named table tag first from forms items labels trees (subst (λ (list : List OpenForm). IsOpen labels_named table list items labels trees) is are)

pub ends_sequence : (values : Values) (next : Option Expecting) (reader : Reader) (trees rest : List OpenTree) (all : List Thing) → trees ≡ InSequence all ∷ rest
    → Leads (Some (put (pairs all the_nil) rest)) values next reader → Leads (at_item trees plain.CloseSequence) values next reader
ends_sequence values next reader trees rest all is led = subst (λ (list : List OpenTree). Leads (at_item list plain.CloseSequence) values next reader) (sym is) led

pub ends_tuple : (values : Values) (next : Option Expecting) (reader : Reader) (trees rest : List OpenTree) (all before : List Thing) (last : Thing) → trees ≡ InTuple all ∷ rest
    → all ≡ last ∷ before → Leads (Some (put (pairs before last) rest)) values next reader → Leads (after_part trees plain.CloseTuple) values next reader
ends_tuple values next reader trees rest all before last is parts led =
    subst (λ (list : List OpenTree). Leads (after_part list plain.CloseTuple) values next reader) (sym (is ∙ ap (λ (all : List Thing). InTuple all ∷ rest) parts)) led

pub no_last : (trees rest : List OpenTree) (all : List Thing) → trees ≡ InTuple all ∷ rest → all ≡ [] → after_part trees plain.CloseTuple ≡ None
no_last trees rest all is none = ap (λ (list : List OpenTree). after_part list plain.CloseTuple) (is ∙ ap (λ (all : List Thing). InTuple all ∷ rest) none)

pub open_by : (labels_named : List Name) (table : List Thing) (forms new_forms : List OpenForm) (items new_items : List ValueId) (labels new_labels : List ℕ) (trees : List OpenTree)
    → new_forms ≡ forms → new_items ≡ items → new_labels ≡ labels → IsOpen labels_named table forms items labels trees → IsOpen labels_named table new_forms new_items new_labels trees
open_by names table forms new_forms items new_items labels new_labels trees are_forms are_items are_labels are = rw (are_forms, are_items, are_labels) are

pub lead_other : (one other : Option State) (values : Values) (next : Option Expecting) (reader : Reader) → one ≡ other → Leads other values next reader → Leads one values next reader
lead_other one other values next reader is led = subst (λ (made : Option State). Leads made values next reader) (sym is) led

-- whether as many forms are open as may be
at_least : (n : ℕ) → leb 1000 n ≡ not (ltb n 1000)
at_least n = by (ltb n 1000) (Decides-ltb n 1000) (leb_tells 1000 n)
  where
    by : (b : Bool) → Decides b (n < 1000) → ((leb 1000 n ≡ true) × (1000 ≤ n)) ⊎ ((leb 1000 n ≡ false) × (n < 1000)) → leb 1000 n ≡ not b
    by true few (inl most) = absurd (omega (arith, most.1, few.0 refl))
    by true few (inr less) = less.0
    by false few (inl most) = most.0
    by false few (inr less) = absurd (true≢false (sym (few.1 (omega (arith, less.1)))))

at_least_with_tag : (n : ℕ) → leb 999 n ≡ not (ltb (suc n) 1000)
at_least_with_tag n = by (ltb (suc n) 1000) (Decides-ltb (suc n) 1000) (leb_tells 999 n)
  where
    by : (b : Bool) → Decides b (suc n < 1000) → ((leb 999 n ≡ true) × (999 ≤ n)) ⊎ ((leb 999 n ≡ false) × (n < 999)) → leb 999 n ≡ not b
    by true few (inl most) = absurd (omega (arith, most.1, few.0 refl))
    by true few (inr less) = less.0
    by false few (inl most) = most.0
    by false few (inr less) = absurd (true≢false (sym (few.1 (omega (arith, less.1)))))

pub full_by : (count : ℕ) (names : List Name) (table : List Thing) (forms : List OpenForm) (items : List ValueId) (labels : List ℕ) (trees : List OpenTree) (next : Expecting)
    → count ≡ length forms → (next ≡ expecting.Tag → ⊥) → IsOpen names table forms items labels trees
    → leb 1000 count ≡ not (ltb (length (trees_at next trees)) 1000)
full_by count names table forms items labels trees next is other are =
    at_least count ∙ ap (λ (n : ℕ). not (ltb n 1000)) (is ∙ sym (as_many names table forms items labels trees are) ∙ same_count next trees other)

pub tag_full : (count : ℕ) (names : List Name) (table : List Thing) (forms : List OpenForm) (items : List ValueId) (labels : List ℕ) (trees : List OpenTree) (next : Expecting)
    → count ≡ length forms → next ≡ expecting.Tag → IsOpen names table forms items labels trees
    → leb 999 count ≡ not (ltb (length (trees_at next trees)) 1000)
tag_full count names table forms items labels trees next is tag are =
    at_least_with_tag count ∙ ap (λ (n : ℕ). not (ltb (suc n) 1000)) (is ∙ sym (as_many names table forms items labels trees are))
    ∙ ap (λ (next : Expecting). not (ltb (length (trees_at next trees)) 1000)) (sym tag)

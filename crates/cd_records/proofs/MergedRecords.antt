-- A formula for the merged entries of two nodes holds the records that merge theirs.
use Rattle.std.proofs.Common.{◌≡◌, Bool, true, false, ◌&&◌, List, [], ◌∷◌, ◌++◌, map, Option}
use Rattle.std.proofs.Common.{Some, None, ◌⊎◌, inl, inr, refl, sym, ap, subst, ◌∙◌, bytes_eq}
use Rattle.std.proofs.Common.{if◌then◌else◌}
use Rattle.std.proofs.lemmas.Option.{none-some}
use Rattle.std.proofs.Math.Path.{ap₂}
use Rattle.cd_sets.specs.declared.node_id.NodeId.{NodeId}
use Rattle.cd_sets.specs.declared.question.Question.{Question}
use Rattle.cd_syntax.specs.Name.{Name, IsLabel}
use Rattle.cd_model.specs.AllOf.{AllOf, AnyOf}
use Rattle.cd_model.specs.BuiltIns.{built_ins, EMPTY}
use Rattle.cd_model.specs.Formula.{Graph, in_node}
use Rattle.cd_model.specs.Thing as thing
use Rattle.cd_model.specs.Thing.{Thing, IsElement, IsRecord}
use Rattle.cd_model.proofs.Labels.{IsOneOf}
use Rattle.cd_model.proofs.Sorts as sort
use Rattle.cd_rules.specs.InRow.{thing_at}
use Rattle.cd_rules.specs.Rows.{Cell, Row}
use Rattle.cd_rules.proofs.FreshLabels.{row_of_a, row_is_label}
use Rattle.cd_model.proofs.Ones.{each_weaker, one_of_map}
use Rattle.cd_model.proofs.ReadHeads.{nothing_in_empty}
use Rattle.cd_rows.specs.RecordRows.{InRecordRow, RowHasWitnesses, may_lack}
use Rattle.cd_rows.proofs.RowsWithWitnesses.{at_labels}
use Rattle.cd_meaning.specs.Records.{IsMergedAt, IsMergeOf}
use Rattle.cd_meaning.specs.Sets.{elements_of}
use Rattle.cd_records.specs.Inner.Entries.{Entry, IsInEntry, entry_in}
use Rattle.cd_records.specs.Inner.Labels.{AreRising, labels_in, row_labels}
use Rattle.cd_records.specs.Inner.Rows.{AreRowsOf}
use Rattle.cd_records.specs.Inner.Saying.{asked_by, every_of, one_may_lack, merged_entry}
use Rattle.cd_records.specs.Inner.Saying.{merged_every, merged_entries, with_questions}
use Rattle.cd_records.specs.Inner.Rests.{IsMergedNode, IsMergedSaid, merged_labels}
use Rattle.cd_records.specs.Inner.Standing.{IsNodeFor}
use Rattle.cd_records.proofs.BuiltInsBelow.{empty_below}
use Rattle.cd_records.proofs.LabelsRise.{rows_rise, rows_still, rows_have}
use Rattle.cd_records.proofs.Lookups.{names_differ, same_name, not_same, of_no_cell}
use Rattle.cd_records.proofs.MergedEntries.{any_passes, merged_in_entry, entry_is_merged}
use Rattle.cd_records.proofs.RowsOfNodes.{row_of_record, some_record}

-- a name is one of these or none of them
pub one_or_none : (names : List Name) (name : Name)
    → IsOneOf names name ⊎ (IsOneOf names name → ⊥)
one_or_none [] name = inr (λ one. one)
one_or_none (first ∷ names) name =
    by_name (bytes_eq first name) refl (one_or_none names name)
  where
    by_name : (same : Bool) → bytes_eq first name ≡ same
        → IsOneOf names name ⊎ (IsOneOf names name → ⊥)
        → IsOneOf (first ∷ names) name ⊎ (IsOneOf (first ∷ names) name → ⊥)
    by_name true same later = inl (inl (same_name first name same))
    by_name false differ (inl one) = inl (inr one)
    by_name false differ (inr none) = inr (λ one. elim one [
      | inl same ↦ not_same first name differ same
      | inr later ↦ none later
    ])

-- the entries that a function gives labels
module _ (entry : Name → Entry) (every : List Question) (name : Name) where
  abbrev pub given : List Name → List (Name × Entry)
  given labels = map (λ label. (label, entry label)) labels

  pub given_there : (labels : List Name) → IsOneOf labels name
      → entry_in (given labels) every name ≡ entry name
  given_there [] one = absurd one
  given_there (label ∷ labels) one = by_name (bytes_eq label name) refl one (given_there labels)
    where
      by_name : (same : Bool) → bytes_eq label name ≡ same → IsOneOf (label ∷ labels) name
          → (IsOneOf labels name → entry_in (given labels) every name ≡ entry name)
          → (if same then entry label else entry_in (given labels) every name) ≡ entry name
      by_name true same one further = ap entry (same_name label name same)
      by_name false differ (inl same) further = absurd (not_same label name differ same)
      by_name false differ (inr later) further = further later

  pub given_elsewhere : (labels : List Name) → (IsOneOf labels name → ⊥)
      → entry_in (given labels) every name ≡ record { optional = true; questions = every }
  given_elsewhere [] none = refl
  given_elsewhere (label ∷ labels) none =
      ap (λ (same : Bool). if same then entry label else entry_in (given labels) every name)
      (names_differ label name (λ same. none (inl same)))
      ∙ given_elsewhere labels (λ one. none (inr one))

-- each of rising labels is one
pub rising_is : (before : Option Name) (labels : List Name) → AreRising before labels → (name : Name)
    → IsOneOf labels name → IsLabel name
rising_is before [] rising name one = absurd one
rising_is before (label ∷ labels) rising name (inl same) = subst IsLabel same rising.0
rising_is before (label ∷ labels) rising name (inr later) =
    rising_is (Some label) labels rising.2 name later

-- fields have something at labels alone
pub had_at_label : (fields : thing.Fields) → thing.AreFields fields → (name : Name) (d : Thing)
    → thing_at fields name ≡ Some d → IsLabel name
had_at_label thing.NoField are name d there = absurd (none-some d there)
had_at_label (thing.Field label e rest) are name d there =
    by_name (bytes_eq label name) refl there (had_at_label rest are.2 name d)
  where
    by_name : (same : Bool) → bytes_eq label name ≡ same
        → (if same then Some e else thing_at rest name) ≡ Some d
        → (thing_at rest name ≡ Some d → IsLabel name) → IsLabel name
    by_name true same there further = subst IsLabel (same_name label name same) are.0
    by_name false differ there further = further there

-- rows say of a label of no cell what they say of all of those
abbrev NoCells : List Row → Name → Type 0
NoCells rows name = AllOf (λ row. AnyOf (λ cell. cell.0 ≡ name) row.cells → ⊥) rows

asked_of_every : (rows : List Row) (name : Name) → NoCells rows name
    → asked_by rows name ≡ every_of rows
asked_of_every [] name none = refl
asked_of_every (row ∷ rows) name none = ap₂ (λ (first : Question) (rest : List Question). first ∷ rest)
    (ap (λ (cell : Cell). cell.value) (of_no_cell row.cells row.every name none.0))
    (asked_of_every rows name none.1)

may_lack_all : (rows : List Row) (name : Name) → NoCells rows name
    → AnyOf (λ (row : Row). Unit {0}) rows → one_may_lack rows name ≡ true
may_lack_all rows name none some = any_passes (λ row. may_lack row name) rows
    (by_each rows none some)
  where
    by_each : (rows : List Row) → NoCells rows name → AnyOf (λ (row : Row). Unit {0}) rows
        → AnyOf (λ row. may_lack row name ≡ true) rows
    by_each [] none one = absurd one
    by_each (row ∷ rows) none (inl is) =
        inl (ap (λ (cell : Cell). cell.absent) (of_no_cell row.cells row.every name none.0))
    by_each (row ∷ rows) none (inr later) = inr (by_each rows none.1 later)

-- labels that are none of those of rows have no cell in them
no_cells : (rows : List Row) (name : Name)
    → (AnyOf (λ row. IsOneOf (labels_in row.cells) name) rows → ⊥) → NoCells rows name
no_cells [] name none = tt
no_cells (row ∷ rows) name none = (
  λ one. none (inl (one_of_map (λ cell. cell.0) (λ label. label ≡ name) row.cells one)),
  no_cells rows name (λ one. none (inr one)),
)

-- labels of rows whose questions have witnesses
pub labels_with_witnesses : (graph : Graph) (rows : List Row)
    → AllOf (RowHasWitnesses (in_node graph) IsElement) rows
    → AllOf (λ row. AllOf IsLabel (labels_in row.cells)) rows
labels_with_witnesses graph rows witnesses = each_weaker (RowHasWitnesses (in_node graph) IsElement)
    (λ row. AllOf IsLabel (labels_in row.cells)) (λ row is. of_cells row.cells is.labels) rows
    witnesses
  where
    of_cells : (cells : List (Name × Cell)) → AllOf (λ cell. IsLabel cell.0) cells
        → AllOf IsLabel (labels_in cells)
    of_cells [] each = tt
    of_cells (cell ∷ cells) each = (each.0, of_cells cells each.1)

pub labels_rise : (graph : Graph) (first second : List Row)
    → AllOf (RowHasWitnesses (in_node graph) IsElement) first
    → AllOf (RowHasWitnesses (in_node graph) IsElement) second
    → AreRising None (merged_labels first second)
labels_rise graph first second witnesses witnesses_too =
    rows_rise second (row_labels first []) (labels_with_witnesses graph second witnesses_too)
    (rows_rise first [] (labels_with_witnesses graph first witnesses) tt)

module _ (graph before : Graph) (begins : graph ≡ built_ins ++ before) (a b : NodeId)
    (first second : List Row) (are_a : AreRowsOf graph a first) (are_b : AreRowsOf graph b second)
    (some_first : AnyOf (λ (row : Row). Unit {0}) first)
    (some_second : AnyOf (λ (row : Row). Unit {0}) second) where
  abbrev labels : List Name
  labels = merged_labels first second

  abbrev entries : List (Name × Entry)
  entries = merged_entries first second labels

  abbrev every : List Question
  every = merged_every first second

  -- a name that is none of the labels has the entry of all others
  as_every : (name : Name) → (IsOneOf labels name → ⊥)
      → merged_entry first second name ≡ record { optional = true; questions = every }
  as_every name none =
      let no_first = no_cells first name
      (λ one. none (rows_still second (row_labels first []) name (rows_have first [] name one))) in
      let no_second = no_cells second name
      (λ one. none (rows_have second (row_labels first []) name one)) in
      let may_second = may_lack_all second name no_second some_second in
      let may_first = may_lack_all first name no_first some_first in
      λ i. record {
        optional = (ap₂ (λ (one other : Bool). one && other) may_second may_first) i;
        questions = (ap₂ with_questions
            (ap (λ (b : Bool). if b then asked_by first name else []) may_second
            ∙ asked_of_every first name no_first)
            (ap (λ (those : List Question). with_questions those [])
            (asked_of_every second name no_second))) i;
      }

  entry_at : (name : Name) → entry_in entries every name ≡ merged_entry first second name
  entry_at name = by_name (one_or_none labels name)
    where
      by_name : IsOneOf labels name ⊎ (IsOneOf labels name → ⊥)
          → entry_in entries every name ≡ merged_entry first second name
      by_name (inl one) = given_there (merged_entry first second) every name labels one
      by_name (inr none) = given_elsewhere (merged_entry first second) every name labels none
          ∙ sym (as_every name none)

  abbrev Merges : Thing → Type 0
  Merges = IsMergeOf (elements_of graph a) (elements_of graph b)

  -- a node for what is said of merged records holds these
  module _ (new : Graph) (id : NodeId)
      (is_node : IsNodeFor new (IsMergedSaid graph first second) id) where
    pub has_merged : (d : Thing) → IsElement d → Merges d → in_node new d id true
    has_merged d is (fields, same, merged) = subst (λ (d : Thing). in_node new d id true)
        (sym same) ((is_node.exact fields (subst IsElement same is)).0
        (λ name. by_what name (thing_at fields name) refl (one_or_none labels name)))
      where
        at_label : (name : Name) → IsLabel name
            → IsInEntry (in_node graph) (thing_at fields name) (entry_in entries every name)
        at_label name is_label = subst (IsInEntry (in_node graph) (thing_at fields name))
            (sym (entry_at name))
            (merged_in_entry graph before begins a b first second are_a are_b name is_label
            (thing_at fields name) (merged name is_label))

        by_what : (name : Name) (what : Option Thing) → thing_at fields name ≡ what
            → IsOneOf labels name ⊎ (IsOneOf labels name → ⊥)
            → IsInEntry (in_node graph) (thing_at fields name) (entry_in entries every name)
        by_what name what there (inl one) =
            at_label name (rising_is None labels
            (labels_rise graph first second are_a.witnesses are_b.witnesses) name one)
        by_what name None there (inr none) = subst
            (λ (what : Option Thing). IsInEntry (in_node graph) what (entry_in entries every name))
            (sym there)
            (ap (λ (entry : Entry). entry.optional)
            (given_elsewhere (merged_entry first second) every name labels none))
        by_what name (Some e) there (inr none) = at_label name
            (had_at_label fields (subst IsElement same is).1 name e there)

    pub only_merged : (d : Thing) → IsElement d → in_node new d id true → Merges d
    only_merged d is h = by_record d (is_node.records d h) is h
      where
        by_record : (d : Thing) → IsRecord d → IsElement d → in_node new d id true → Merges d
        by_record (thing.Record fields) record_is is h = (
          fields,
          refl,
          λ label is_label. entry_is_merged graph before begins a b first second are_a are_b label
              is_label (some_record graph before begins a first are_a some_first)
              (thing_at fields label) (at_labels sort.elements fields is.1 label)
              (subst (IsInEntry (in_node graph) (thing_at fields label)) (entry_at label)
              ((is_node.exact fields is).1 h label)),
        )
        by_record (thing.Integer n) record_is is h = absurd record_is
        by_record (thing.Character c) record_is is h = absurd record_is
        by_record (thing.Atom name) record_is is h = absurd record_is
        by_record (thing.Pair one other) record_is is h = absurd record_is
        by_record (thing.Xml tag attributes content) record_is is h = absurd record_is
        by_record (thing.Function pairs) record_is is h = absurd record_is
        by_record (thing.Closure function environment) record_is is h = absurd record_is

-- the node of two lists of rows
pub merged_node : (graph before : Graph) → graph ≡ built_ins ++ before
    → (first second : List Row) → AnyOf (λ (row : Row). Unit {0}) first
    → AnyOf (λ (row : Row). Unit {0}) second → (new : Graph) (id : NodeId)
    → IsNodeFor new (IsMergedSaid graph first second) id
    → IsMergedNode graph new first second id
merged_node graph before begins first second some_first some_second new id is_node = record {
  node = is_node.node;
  has = λ a b are_a are_b. has_merged graph before begins a b first second are_a are_b some_first
      some_second new id is_node;
  only = λ a b are_a are_b. only_merged graph before begins a b first second are_a are_b some_first
      some_second new id is_node;
}

-- where one of them has no row nothing is merged
pub merged_empty : (graph before : Graph) → graph ≡ built_ins ++ before
    → (first second : List Row) → (first ≡ []) ⊎ (second ≡ [])
    → IsMergedNode graph graph first second EMPTY
merged_empty graph before begins first second none = record {
  node = empty_below graph before begins;
  has = λ a b are_a are_b d is merges. absurd (by_none a b are_a are_b merges.0 none
      (merges.2 (row_of_a 0) (row_is_label 0)));
  only = λ a b are_a are_b d is inside. absurd (nothing_in_empty graph before begins d inside);
}
  where
    by_none : (a b : NodeId) → AreRowsOf graph a first → AreRowsOf graph b second
        → (fields : thing.Fields) → (first ≡ []) ⊎ (second ≡ [])
        → IsMergedAt (elements_of graph a) (elements_of graph b) (row_of_a 0)
        (thing_at fields (row_of_a 0)) → ⊥
    by_none a b are_a are_b fields (inl none) (one, other, is_one, is_other, there) =
        subst (AnyOf (InRecordRow (in_node graph) one)) none
        (row_of_record graph before begins a first are_a one is_one)
    by_none a b are_a are_b fields (inr none) (one, other, is_one, is_other, there) =
        subst (AnyOf (InRecordRow (in_node graph) other)) none
        (row_of_record graph before begins b second are_b other is_other)

-- The records of a row without their fields at a label are those that are as its entries say, and
-- have values of the questions of one of the lists that may be left.
use Rattle.std.proofs.Common.{◌≡◌, Bool, true, false, List, [], ◌∷◌, Option, Some, None}
use Rattle.std.proofs.Common.{◌⊎◌, inl, inr, refl, sym, ap, subst, ◌∙◌, bytes_eq, if◌then◌else◌}
use Rattle.cd_sets.specs.declared.question.Question.{Question}
use Rattle.cd_syntax.specs.Name.{Name, IsLabel}
use Rattle.cd_model.specs.AllOf.{AllOf, AnyOf}
use Rattle.cd_model.specs.Formula.{Graph, in_node, asked}
use Rattle.cd_model.specs.Thing as thing
use Rattle.cd_model.specs.Thing.{Thing, Fields, IsElement}
use Rattle.cd_model.proofs.Labels.{IsOneOf}
use Rattle.cd_model.proofs.Sorts as sort
use Rattle.cd_rules.specs.InRow.{thing_at, IsInCell, IsOfNoCell, HasElsewhere}
use Rattle.cd_rules.specs.Rows.{Cell, Row}
use Rattle.cd_rules.proofs.MembersFields.{found, put, found_there, found_elsewhere, put_rises}
use Rattle.cd_rules.proofs.MembersFields.{put_fields}
use Rattle.cd_model.proofs.Ones.{each_weaker, map_of_one, one_of_map, one_weaker, picked}
use Rattle.cd_model.proofs.Ones.{one_with_each}
use Rattle.cd_rows.specs.RecordRows.{InRecordRow, RowHasWitnesses, asked_at, may_lack, cell_in}
use Rattle.cd_rows.proofs.RowsWithWitnesses.{IsOfSort, at_labels}
use Rattle.cd_meaning.specs.Records.{IsWithout}
use Rattle.cd_records.specs.Inner.Entries.{Entry, IsInEntry, entry_in}
use Rattle.cd_records.specs.Inner.Labels.{labels_in, row_labels}
use Rattle.cd_records.specs.Inner.Leaving.{Choice, AreChoices, AreLefts, first_choice, rest_entries}
use Rattle.cd_records.specs.Inner.Leaving.{rest_entry, rest_labels, some_of}
use Rattle.cd_records.specs.Inner.Standing.{HasOther, IsRest}
use Rattle.cd_records.proofs.ChoicesMade.{Fits, IsOutsideOtherKinds, IsRight, choice_fits, choices_right}
use Rattle.cd_records.proofs.LabelsRise.{has_inserted, still_has, rows_have, no_others}
use Rattle.cd_records.proofs.LabelsRise.{among_either}
use Rattle.cd_records.proofs.Lookups.{in_cell_at, in_row_by_names, name_itself, names_differ}
use Rattle.cd_records.proofs.Lookups.{not_same, of_no_cell, same_name}
use Rattle.cd_records.proofs.MergedRecords.{given_elsewhere, given_there, one_or_none}
use Rattle.cd_records.proofs.QuestionsOnce.{each_back, each_of_both, each_one}

-- what fields have at a label, said twice
at_found : (fields : Fields) (label : Name) → thing_at fields label ≡ found fields label
at_found thing.NoField label = refl
at_found (thing.Field name d rest) label =
    ap (λ (later : Option Thing). if bytes_eq name label then Some d else later)
    (at_found rest label)

-- fields with this put at a label, if it is anything
abbrev with_it : Name → Option Thing → Fields → Fields
with_it label None fields = fields
with_it label (Some d) fields = put label d fields

module _ (label : Name) (fields : Fields) where
  it_there : (what : Option Thing) → thing_at fields label ≡ None
      → thing_at (with_it label what fields) label ≡ what
  it_there None none = none
  it_there (Some d) none = at_found (put label d fields) label ∙ found_there label d fields

  it_elsewhere : (what : Option Thing) (name : Name) → bytes_eq label name ≡ false
      → thing_at (with_it label what fields) name ≡ thing_at fields name
  it_elsewhere None name differ = refl
  it_elsewhere (Some d) name differ = at_found (put label d fields) name
      ∙ found_elsewhere label d fields name differ ∙ sym (at_found fields name)

  with_it_is : (what : Option Thing) → IsLabel label → IsOfSort IsElement what
      → IsElement (thing.Record fields) → IsElement (thing.Record (with_it label what fields))
  with_it_is None is_label sort is = is
  with_it_is (Some d) is_label sort is =
      (put_rises None label d fields tt is.0, put_fields label d fields is_label sort is.1)

module _ (graph : Graph) (row : Row) (label : Name) where
  abbrev entries : List (Name × Entry)
  entries = rest_entries row label

  abbrev every : List Question
  every = row.every ∷ []

  abbrev NoEntry : Name → Type 0
  NoEntry name = AnyOf (λ one. one.0 ≡ name) entries → ⊥

  -- the labels of entries are those of cells, and the one that goes
  among : (name : Name) → IsOneOf (rest_labels row label) name
      → AnyOf (λ one. one.0 ≡ name) entries
  among name one = one_of_map (λ name. (name, rest_entry row label name)) (λ one. one.0 ≡ name)
      (rest_labels row label) one

  cell_among : (name : Name) → AnyOf (λ cell. cell.0 ≡ name) row.cells
      → IsOneOf (rest_labels row label) name
  cell_among name one = still_has label (row_labels (row ∷ []) []) name
      (rows_have (row ∷ []) [] name
      (inl (one_of_map (λ cell. cell.0) (λ label. label ≡ name) row.cells one)))

  none_among : (name : Name) → IsOfNoCell row name → bytes_eq label name ≡ false
      → IsOneOf (rest_labels row label) name → ⊥
  none_among name none differ one = by_first (no_others label (row_labels (row ∷ []) []) name one)
    where
      by_cell : IsOneOf (labels_in row.cells) name ⊎ IsOneOf [] name → ⊥
      by_cell (inl one) = none (map_of_one (λ cell. cell.0) (λ label. label ≡ name) row.cells one)
      by_cell (inr none) = none

      by_first : (label ≡ name) ⊎ IsOneOf (row_labels (row ∷ []) []) name → ⊥
      by_first (inl same) = not_same label name differ same
      by_first (inr one) = by_cell (among_either (labels_in row.cells) [] name one)

  it_among : IsOneOf (rest_labels row label) label
  it_among = has_inserted label (row_labels (row ∷ []) [])

  no_entry_cell : (name : Name) → NoEntry name → IsOfNoCell row name
  no_entry_cell name none one = none (among name (cell_among name one))

  no_entry_label : (name : Name) → NoEntry name → bytes_eq label name ≡ false
  no_entry_label name none =
      names_differ label name (λ same. none (among name (subst (IsOneOf (rest_labels row label)) same it_among)))

  -- what they say at a name
  entry_at : (name : Name) → entry_in entries every name ≡ rest_entry row label name
  entry_at name = by_name (one_or_none (rest_labels row label) name)
    where
      by_name : IsOneOf (rest_labels row label) name
          ⊎ (IsOneOf (rest_labels row label) name → ⊥)
          → entry_in entries every name ≡ rest_entry row label name
      by_name (inl one) =
          given_there (rest_entry row label) every name (rest_labels row label) one
      by_name (inr none) =
          given_elsewhere (rest_entry row label) every name (rest_labels row label) none
          ∙ sym of_row
        where
          no_cell : IsOfNoCell row name
          no_cell one = none (cell_among name one)

          of_row : rest_entry row label name ≡ record { optional = true; questions = every }
          of_row = ap (λ (same : Bool). if same then record { optional = true; questions = [] }
              else record { optional = may_lack row name; questions = asked_at row name ∷ [] })
              (names_differ label name
              (λ same. none (subst (IsOneOf (rest_labels row label)) same it_among)))
              ∙ ap (λ (cell : Cell). record { optional = cell.absent; questions = cell.value ∷ [] })
              (of_no_cell row.cells row.every name no_cell)

  -- at the label nothing, and at another one what is in the row's cell
  nothing_there : (what : Option Thing) → IsInEntry (in_node graph) what
      (rest_entry row label label) → what ≡ None
  nothing_there what inside = by_what what (subst (IsInEntry (in_node graph) what)
      (ap (λ (same : Bool). if same then record { optional = true; questions = [] }
      else record { optional = may_lack row label; questions = asked_at row label ∷ [] })
      (name_itself label)) inside)
    where
      by_what : (what : Option Thing)
          → IsInEntry (in_node graph) what (record { optional = true; questions = [] })
          → what ≡ None
      by_what None may = refl
      by_what (Some d) none = absurd none

  module _ (name : Name) where
    abbrev cell : Cell
    cell = cell_in row.cells row.every name

    abbrev own_entry : Entry
    own_entry = record { optional = may_lack row name; questions = asked_at row name ∷ [] }

    at_other : bytes_eq label name ≡ false → rest_entry row label name ≡ own_entry
    at_other differ = ap (λ (same : Bool). if same then record { optional = true; questions = [] }
        else own_entry) differ

    in_own : (what : Option Thing) → IsInEntry (in_node graph) what own_entry
        → IsInCell (in_node graph) what cell
    in_own None may = may
    in_own (Some d) (inl inside) = inside
    in_own (Some d) (inr none) = absurd none

    as_own : (what : Option Thing) → IsInCell (in_node graph) what cell
        → IsInEntry (in_node graph) what own_entry
    as_own None may = may
    as_own (Some d) inside = inl inside

  abbrev pub IsRestOfRow : List Question → Fields → Type 0
  IsRestOfRow left others = IsRest graph entries every left others

  -- from a record of the row to its rest
  module _ (fields others : Fields) (in_row : InRecordRow (in_node graph) fields row)
      (without : IsWithout label fields others) where
    others_there : (name : Name) → bytes_eq label name ≡ false
        → thing_at others name ≡ thing_at fields name
    others_there name differ = without name
        ∙ ap (λ (same : Bool). if same then None else thing_at fields name) differ

    said : (name : Name)
        → IsInEntry (in_node graph) (thing_at others name) (entry_in entries every name)
    said name = subst (IsInEntry (in_node graph) (thing_at others name)) (sym (entry_at name))
        (by_name (bytes_eq label name) refl)
      where
        by_name : (same : Bool) → bytes_eq label name ≡ same
            → IsInEntry (in_node graph) (thing_at others name) (rest_entry row label name)
        by_name true same = subst (IsInEntry (in_node graph) (thing_at others name))
            (sym (ap (λ (same : Bool). if same then record { optional = true; questions = [] }
            else own_entry name) same))
            (subst (λ (what : Option Thing).
            IsInEntry (in_node graph) what (record { optional = true; questions = [] }))
            (sym (without name
            ∙ ap (λ (same : Bool). if same then None else thing_at fields name) same)) refl)
        by_name false differ = subst (IsInEntry (in_node graph) (thing_at others name))
            (sym (at_other name differ))
            (as_own name (thing_at others name) (subst (λ (what : Option Thing).
            IsInCell (in_node graph) what (cell name)) (sym (others_there name differ))
            (in_cell_at (in_node graph) (thing_at fields) row in_row name)))

    -- a name of no cell that is not the label has no entry
    no_entry : (name : Name) → IsOfNoCell row name → bytes_eq label name ≡ false → NoEntry name
    no_entry name none differ one = none_among name none differ
        (map_of_one (λ name. (name, rest_entry row label name)) (λ one. one.0 ≡ name)
        (rest_labels row label) one)

    other : (question : Question) (name : Name) → IsOfNoCell row name
        → bytes_eq label name ≡ false
        → IsInCell (in_node graph) (thing_at fields name)
        (record { absent = false; value = question }) → HasOther graph entries others question
    other question name none differ inside = (
      name,
      no_entry name none differ,
      subst (λ (what : Option Thing).
          IsInCell (in_node graph) what (record { absent = false; value = question }))
          (sym (others_there name differ)) inside,
    )

    -- where the label has a cell, each question has its value elsewhere
    module _ (has_cell : AnyOf (λ cell. cell.0 ≡ label) row.cells) where
      apart : (name : Name) → IsOfNoCell row name → bytes_eq label name ≡ false
      apart name none = names_differ label name
          (λ same. none (subst (λ (name : Name). AnyOf (λ cell. cell.0 ≡ name) row.cells) same
          has_cell))

      all_others : AllOf (HasOther graph entries others) (some_of row)
      all_others = each_of_both (HasOther graph entries others) row.some []
          (each_weaker (HasElsewhere (in_node graph) (thing_at fields) row)
          (HasOther graph entries others)
          (λ question has. other question has.0 has.1 (apart has.0 has.1) has.2) row.some
          in_row.2) tt

    of_choice : IsElement (thing.Record fields) → IsOfNoCell row label → (choices : List Choice)
        → AreChoices graph (some_of row) (first_choice row ∷ []) choices
        → AnyOf (λ choice. IsRestOfRow choice.left others) choices
    of_choice is none choices are = one_weaker (Fits graph row label (thing_at fields) sorted)
        (λ choice. IsRestOfRow choice.left others)
        (λ choice fits. (
          said,
          each_weaker (IsOutsideOtherKinds graph row label (thing_at fields) sorted)
              (HasOther graph entries others)
              (λ question has. other question has.0 has.1 has.2 has.3) choice.left fits.left,
        )) choices
        (choice_fits graph row label (thing_at fields) sorted (some_of row) choices are
        (in_row.1 label none)
        (each_of_both (HasElsewhere (in_node graph) (thing_at fields) row) row.some [] in_row.2
        tt))
      where
        sorted : IsOfSort IsElement (thing_at fields label)
        sorted = at_labels sort.elements fields is.1 label

    pub row_to_rest : IsElement (thing.Record fields) → (lefts : List (List Question))
        → AreLefts graph row label lefts → AnyOf (λ left. IsRestOfRow left others) lefts
    row_to_rest is lefts (inl (has_cell, same)) =
        subst (AnyOf (λ left. IsRestOfRow left others)) (sym same)
        (inl (said, all_others has_cell))
    row_to_rest is lefts (inr (none, (choices, are, same))) =
        subst (AnyOf (λ left. IsRestOfRow left others)) (sym same)
        (one_of_map (λ choice. choice.left) (λ left. IsRestOfRow left others) choices
        (of_choice is none choices are))

  -- and back
  abbrev NoCell : Type 0
  NoCell = IsOfNoCell row label

  -- something that may be put back at the label
  record Back (left : List Question) : Type 0 where
    what : Option Thing
    sort : IsOfSort IsElement what
    inside : IsInCell (in_node graph) what (cell_in row.cells row.every label)
    met : AllOf (λ question. AnyOf (λ other. other ≡ question) left
        ⊎ (NoCell × IsInCell (in_node graph) what (record { absent = false; value = question })))
        row.some

  module _ (witnesses : RowHasWitnesses (in_node graph) IsElement row) (is_label : IsLabel label)
      (others : Fields) (is : IsElement (thing.Record others)) where
    abbrev pub Rests : Type 0
    Rests = (fields : Fields) × IsElement (thing.Record fields)
        × InRecordRow (in_node graph) fields row × IsWithout label fields others

    module _ (left : List Question) (rest : IsRestOfRow left others) (back : Back left) where
      none_there : thing_at others label ≡ None
      none_there = nothing_there (thing_at others label)
          (subst (IsInEntry (in_node graph) (thing_at others label)) (entry_at label)
          (rest.0 label))

      abbrev fields : Fields
      fields = with_it label back.what others

      at_names : (name : Name) → IsInCell (in_node graph) (thing_at fields name) (cell name)
      at_names name = by_name (bytes_eq label name) refl
        where
          by_name : (same : Bool) → bytes_eq label name ≡ same
              → IsInCell (in_node graph) (thing_at fields name) (cell name)
          by_name true same = subst
              (λ (name : Name). IsInCell (in_node graph) (thing_at fields name) (cell name))
              (same_name label name same)
              (subst (λ (what : Option Thing). IsInCell (in_node graph) what (cell label))
              (sym (it_there label others back.what none_there)) back.inside)
          by_name false differ =
              subst (λ (what : Option Thing). IsInCell (in_node graph) what (cell name))
              (sym (it_elsewhere label others back.what name differ))
              (in_own name (thing_at others name)
              (subst (IsInEntry (in_node graph) (thing_at others name))
              (entry_at name ∙ at_other name differ) (rest.0 name)))

      elsewhere : (question : Question) → AnyOf (λ other. other ≡ question) left
          ⊎ (NoCell × IsInCell (in_node graph) back.what
          (record { absent = false; value = question }))
          → HasElsewhere (in_node graph) (thing_at fields) row question
      elsewhere question (inl one) =
          let has = each_one (HasOther graph entries others) left question rest.1 one in (
            has.0,
            no_entry_cell has.0 has.1,
            subst (λ (what : Option Thing).
                IsInCell (in_node graph) what (record { absent = false; value = question }))
                (sym (it_elsewhere label others back.what has.0 (no_entry_label has.0 has.1)))
                has.2,
          )
      elsewhere question (inr (none, inside)) = (
        label,
        none,
        subst (λ (what : Option Thing).
            IsInCell (in_node graph) what (record { absent = false; value = question }))
            (sym (it_there label others back.what none_there)) inside,
      )

      without_it : IsWithout label fields others
      without_it name = by_name (bytes_eq label name) refl
        where
          by_name : (same : Bool) → bytes_eq label name ≡ same
              → thing_at others name ≡ (if same then None else thing_at fields name)
          by_name true same = subst (λ (name : Name). thing_at others name ≡ None)
              (same_name label name same) none_there
          by_name false differ = sym (it_elsewhere label others back.what name differ)

      put_back : Rests
      put_back = (
        fields,
        with_it_is label others back.what is_label back.sort is,
        in_row_by_names (in_node graph) (thing_at fields) row witnesses.once at_names
            (each_weaker (λ question. AnyOf (λ other. other ≡ question) left
            ⊎ (NoCell × IsInCell (in_node graph) back.what
            (record { absent = false; value = question })))
            (HasElsewhere (in_node graph) (thing_at fields) row) elsewhere row.some back.met),
        without_it,
      )

    -- a cell may be absent or has an element
    from_cell : (cells : List (Name × Cell)) → AnyOf (λ cell. cell.0 ≡ label) cells
        → AllOf (λ cell. (cell.1.absent ≡ true)
        ⊎ ((d : Thing) × IsElement d × asked (in_node graph d) cell.1.value true)) cells
        → (what : Option Thing) × IsOfSort IsElement what
        × IsInCell (in_node graph) what (cell_in cells row.every label)
    from_cell [] one live = absurd one
    from_cell (first ∷ cells) one live =
        by_name (bytes_eq first.0 label) refl live.0 one (λ later. from_cell cells later live.1)
      where
        by_name : (same : Bool) → bytes_eq first.0 label ≡ same
            → (first.1.absent ≡ true)
            ⊎ ((d : Thing) × IsElement d × asked (in_node graph d) first.1.value true)
            → AnyOf (λ cell. cell.0 ≡ label) (first ∷ cells)
            → (AnyOf (λ cell. cell.0 ≡ label) cells → (what : Option Thing)
            × IsOfSort IsElement what
            × IsInCell (in_node graph) what (cell_in cells row.every label))
            → (what : Option Thing) × IsOfSort IsElement what
            × IsInCell (in_node graph) what
            (if same then first.1 else cell_in cells row.every label)
        by_name true same (inl absent) one further = (None, tt, absent)
        by_name true same (inr (d, sort, inside)) one further = (Some d, sort, inside)
        by_name false differ live (inl same) further =
            absurd (not_same first.0 label differ same)
        by_name false differ live (inr later) further = further later

    cell_back : AnyOf (λ cell. cell.0 ≡ label) row.cells → Back (some_of row)
    cell_back has_cell = let found = from_cell row.cells has_cell witnesses.cells in
        record {
          what = found.0;
          sort = found.1;
          inside = found.2;
          met = each_back (λ question. AnyOf (λ other. other ≡ question) (some_of row)
              ⊎ (NoCell × IsInCell (in_node graph) found.0
              (record { absent = false; value = question }))) row.some []
              (all_left (λ question. NoCell × IsInCell (in_node graph) found.0
              (record { absent = false; value = question })) (some_of row));
        }
      where
        all_left : (Fact : Question → Type 0) (questions : List Question)
            → AllOf (λ question. AnyOf (λ other. other ≡ question) questions ⊎ Fact question)
            questions
        all_left Fact [] = tt
        all_left Fact (first ∷ questions) = (
          inl (inl refl),
          each_weaker
              (λ question. AnyOf (λ other. other ≡ question) questions ⊎ Fact question)
              (λ question. AnyOf (λ other. other ≡ question) (first ∷ questions)
              ⊎ Fact question)
              (λ question one. elim one [ inl later ↦ inl (inr later) | inr is ↦ inr is ])
              questions (all_left Fact questions),
        )

    choice_back : NoCell → (choice : Choice) → IsRight graph row.every (some_of row) choice
        → Back choice.left
    choice_back none choice right = record {
      what = right.what;
      sort = right.sort;
      inside = subst (IsInCell (in_node graph) right.what)
          (sym (of_no_cell row.cells row.every label none)) right.free;
      met = each_back (λ question. AnyOf (λ other. other ≡ question) choice.left
          ⊎ (NoCell × IsInCell (in_node graph) right.what
          (record { absent = false; value = question }))) row.some []
          (each_weaker (λ question. AnyOf (λ other. other ≡ question) choice.left
          ⊎ IsInCell (in_node graph) right.what (record { absent = false; value = question }))
          (λ question. AnyOf (λ other. other ≡ question) choice.left
          ⊎ (NoCell × IsInCell (in_node graph) right.what
          (record { absent = false; value = question })))
          (λ question one. elim one [ inl later ↦ inl later | inr is ↦ inr (none, is) ])
          (some_of row) right.met);
    }

    pub rest_to_row : (lefts : List (List Question)) → AreLefts graph row label lefts
        → AnyOf (λ left. IsRestOfRow left others) lefts → Rests
    rest_to_row lefts (inl (has_cell, same)) one =
        by_one (subst (AnyOf (λ left. IsRestOfRow left others)) same one)
      where
        by_one : AnyOf (λ left. IsRestOfRow left others) (some_of row ∷ []) → Rests
        by_one (inl rest) = put_back (some_of row) rest (cell_back has_cell)
        by_one (inr none) = absurd none
    rest_to_row lefts (inr (none, (choices, are, same))) one =
        let at = picked (λ choice. IsRestOfRow choice.left others
        × IsRight graph row.every (some_of row) choice) choices
        (one_with_each (λ choice. IsRestOfRow choice.left others)
        (IsRight graph row.every (some_of row)) choices
        (map_of_one (λ choice. choice.left) (λ left. IsRestOfRow left others) choices
        (subst (AnyOf (λ left. IsRestOfRow left others)) same one))
        (choices_right graph row (some_of row) choices are)) in
        put_back at.0.left at.2.0 (choice_back none at.0 at.2.1)

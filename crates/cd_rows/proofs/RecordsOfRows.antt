-- A row whose questions have witnesses has a record, and one with any element at a label that is in
-- what the row asks there.
use Rattle.std.proofs.Common.{◌≡◌, ℕ, suc, ◌<◌, ◌≤◌, Bool, true, false, true≢false, List, [], ◌∷◌}
use Rattle.std.proofs.Common.{length, Option, Some, None, ◌⊎◌, inl, inr, refl, sym, ◌∙◌, ap, subst}
use Rattle.std.proofs.Common.{bytes_eq, if◌then◌else◌, arith}
use Rattle.std.proofs.lemmas.Bool.{cases_Bool}
use Rattle.std.proofs.lemmas.Slice.Eq.{bytes_eq-Decides}
use Rattle.cd_sets.specs.declared.question.Question.{Question}
use Rattle.cd_syntax.specs.Name.{Name, IsLabel}
use Rattle.cd_model.specs.AllOf.{AllOf, AnyOf}
use Rattle.cd_model.specs.Membership.{Answers}
use Rattle.cd_model.specs.Thing as thing
use Rattle.cd_model.specs.Thing.{Thing, IsElement, LabelsRise, AreFields}
use Rattle.cd_model.proofs.Labels.{IsOneOf}
use Rattle.cd_rules.specs.InRow.{thing_at, IsInCell, IsOfNoCell, HasElsewhere, IsInRow}
use Rattle.cd_rules.specs.Rows.{Cell, Row}
use Rattle.cd_rules.proofs.FreshLabels.{row_of_a, row_is_long, row_is_label, lengths_differ}
use Rattle.cd_rules.proofs.FreshLabels.{longest, no_longer}
use Rattle.cd_rules.proofs.MembersFields.{found, put, found_there, found_elsewhere, put_rises}
use Rattle.cd_rules.proofs.MembersFields.{put_fields}
use Rattle.cd_model.proofs.Ones.{each_weaker, one_of_map}
use Rattle.cd_products.specs.QuestionBoxes.{InQuestion, IsInhabited}
use Rattle.cd_rows.specs.RecordRows.{RowHasWitnesses, InRecordRow, HaveOwnLabels, cell_in, asked_at}
use Rattle.cd_rows.proofs.LessRows.{labels_in}

-- fields that are a record of elements
record Made : Type 0 where
  pub fields : thing.Fields
  pub rises : LabelsRise None fields
  pub are : AreFields fields

abbrev with_one : (label : Name) (e : Thing) → IsLabel label → IsElement e → Made → Made
with_one label e is_label is_element made = record {
  fields = put label e made.fields;
  rises = put_rises None label e made.fields tt made.rises;
  are = put_fields label e made.fields is_label is_element made.are;
}

-- what they have at a label
found_is : (fields : thing.Fields) (label : Name) → thing_at fields label ≡ found fields label
found_is thing.NoField label = refl
found_is (thing.Field name is rest) label =
    ap (λ (later : Option Thing). if bytes_eq name label then Some is else later)
    (found_is rest label)

abbrev at : Made → Name → Option Thing
at made label = found made.fields label

differ : (name label : Name) → (name ≡ label → ⊥) → bytes_eq name label ≡ false
differ name label other = by_test (bytes_eq name label) (bytes_eq-Decides name label).0
  where
    by_test : (b : Bool) → (b ≡ true → name ≡ label) → b ≡ false
    by_test true is = absurd (other (is refl))
    by_test false is = refl

module _ (answers : Thing → Answers) where
  abbrev Has : Question → Type 0
  Has = IsInhabited answers IsElement

  abbrev InCell : Made → Name × Cell → Type 0
  InCell made cell = IsInCell answers (at made cell.0) cell.1

  abbrev NoCell : List (Name × Cell) → Name → Type 0
  NoCell cells label = AnyOf (λ cell. cell.0 ≡ label) cells → ⊥

  -- A record that is in the cells, and has nothing at other labels
  record Fits (cells : List (Name × Cell)) : Type 0 where
    made : Made
    inside : AllOf (InCell made) cells
    nothing : (label : Name) → NoCell cells label → at made label ≡ None

  -- with another thing at a label of no cell the cells have what they had
  kept_cells : (cells : List (Name × Cell)) (made : Made) (label : Name) (e : Thing)
      (is_label : IsLabel label) (is_element : IsElement e) → NoCell cells label
      → AllOf (InCell made) cells
      → AllOf (InCell (with_one label e is_label is_element made)) cells
  kept_cells [] made label e is_label is_element none each = tt
  kept_cells (cell ∷ cells) made label e is_label is_element none each = (
    subst (λ (what : Option Thing). IsInCell answers what cell.1)
        (sym (found_elsewhere label e made.fields cell.0
        (differ label cell.0 (λ same. none (inl (sym same)))))) each.0,
    kept_cells cells made label e is_label is_element (λ one. none (inr one)) each.1,
  )

  fit_cells : (cells : List (Name × Cell)) → AllOf (λ cell. IsLabel cell.0) cells
      → HaveOwnLabels cells → AllOf (λ cell. (cell.1.absent ≡ true) ⊎ Has cell.1.value) cells
      → Fits cells
  fit_cells [] labels own live = record {
    made = record { fields = thing.NoField; rises = tt; are = tt };
    inside = tt;
    nothing = λ label none. refl;
  }
  fit_cells (cell ∷ cells) labels own live =
      by_first live.0 (fit_cells cells labels.1 own.1 live.1)
    where
      by_first : (cell.1.absent ≡ true) ⊎ Has cell.1.value → Fits cells → Fits (cell ∷ cells)
      by_first (inl absent) rest = record {
        made = rest.made;
        inside = (
          subst (λ (what : Option Thing). IsInCell answers what cell.1)
              (sym (rest.nothing cell.0 own.0)) absent,
          rest.inside,
        );
        nothing = λ label none. rest.nothing label (λ one. none (inr one));
      }
      by_first (inr (e, is_element, is)) rest = record {
        made = with_one cell.0 e labels.0 is_element rest.made;
        inside = (
          subst (λ (what : Option Thing). IsInCell answers what cell.1)
              (sym (found_there cell.0 e rest.made.fields)) is,
          kept_cells cells rest.made cell.0 e labels.0 is_element own.0 rest.inside,
        );
        nothing = λ label none.
            found_elsewhere cell.0 e rest.made.fields label
            (differ cell.0 label (λ same. none (inl same)))
            ∙ rest.nothing label (λ one. none (inr one));
      }

  -- A record that is in the cells, and has an element at a label that is in its cell, or in `every`
  -- at a label of no cell
  module _ (every : Question) (label : Name) (e : Thing) (is_label : IsLabel label)
      (is_element : IsElement e) where
    record Picks (cells : List (Name × Cell)) : Type 0 where
      made : Made
      inside : AllOf (InCell made) cells
      there : at made label ≡ Some e
      nothing : (other : Name) → NoCell cells other → (label ≡ other → ⊥)
          → at made other ≡ None

    pick : (cells : List (Name × Cell)) → AllOf (λ cell. IsLabel cell.0) cells
        → HaveOwnLabels cells
        → AllOf (λ cell. (cell.1.absent ≡ true) ⊎ Has cell.1.value) cells
        → InQuestion answers e (cell_in cells every label).value → Picks cells
    pick [] labels own live is = record {
      made = with_one label e is_label is_element
          (record { fields = thing.NoField; rises = tt; are = tt });
      inside = tt;
      there = found_there label e thing.NoField;
      nothing = λ other none apart. found_elsewhere label e thing.NoField other
          (differ label other apart);
    }
    pick (cell ∷ cells) labels own live is =
        by_name (cases_Bool (bytes_eq cell.0 label)) (pick cells labels.1 own.1 live.1)
      where
        -- at the label of this cell
        here : cell.0 ≡ label → InQuestion answers e cell.1.value → Fits cells
            → Picks (cell ∷ cells)
        here same is rest = record {
          made = with_one label e is_label is_element rest.made;
          inside = (
            subst (λ (what : Option Thing). IsInCell answers what cell.1)
                (sym (ap (found (put label e rest.made.fields)) same
                ∙ found_there label e rest.made.fields)) is,
            kept_cells cells rest.made label e is_label is_element
                (λ one. own.0 (subst (λ (name : Name). AnyOf (λ other. other.0 ≡ name) cells)
                (sym same) one)) rest.inside,
          );
          there = found_there label e rest.made.fields;
          nothing = λ other none apart.
              found_elsewhere label e rest.made.fields other (differ label other apart)
              ∙ rest.nothing other (λ one. none (inr one));
        }

        -- or not
        later : (cell.0 ≡ label → ⊥) → (cell.1.absent ≡ true) ⊎ Has cell.1.value
            → Picks cells → Picks (cell ∷ cells)
        later apart (inl absent) rest = record {
          made = rest.made;
          inside = (
            subst (λ (what : Option Thing). IsInCell answers what cell.1)
                (sym (rest.nothing cell.0 own.0 (λ same. apart (sym same)))) absent,
            rest.inside,
          );
          there = rest.there;
          nothing = λ other none away. rest.nothing other (λ one. none (inr one)) away;
        }
        later apart (inr (d, is_too, is)) rest = record {
          made = with_one cell.0 d labels.0 is_too rest.made;
          inside = (
            subst (λ (what : Option Thing). IsInCell answers what cell.1)
                (sym (found_there cell.0 d rest.made.fields)) is,
            kept_cells cells rest.made cell.0 d labels.0 is_too own.0 rest.inside,
          );
          there = found_elsewhere cell.0 d rest.made.fields label (differ cell.0 label apart)
              ∙ rest.there;
          nothing = λ other none away.
              found_elsewhere cell.0 d rest.made.fields other
              (differ cell.0 other (λ same. none (inl same)))
              ∙ rest.nothing other (λ one. none (inr one)) away;
        }

        asked_here : bytes_eq cell.0 label ≡ true → InQuestion answers e cell.1.value
        asked_here same = subst
            (λ (test : Bool).
            InQuestion answers e (if test then cell.1 else cell_in cells every label).value)
            same is

        asked_later : bytes_eq cell.0 label ≡ false
            → InQuestion answers e (cell_in cells every label).value
        asked_later other = subst
            (λ (test : Bool).
            InQuestion answers e (if test then cell.1 else cell_in cells every label).value)
            other is

        by_name : (bytes_eq cell.0 label ≡ true) ⊎ (bytes_eq cell.0 label ≡ false)
            → (InQuestion answers e (cell_in cells every label).value → Picks cells)
            → Picks (cell ∷ cells)
        by_name (inl same) further = here ((bytes_eq-Decides cell.0 label).0 same)
            (asked_here same) (fit_cells cells labels.1 own.1 live.1)
        by_name (inr other) further = later
            (λ same. true≢false (sym ((bytes_eq-Decides cell.0 label).1 same) ∙ other))
            live.0 (further (asked_later other))

  -- Further elements at fresh labels, one for each of some questions
  module _ (every : Question) (base : Made) where
    -- at a label there is what was there, or the label is longer than that and has an element of
    -- `every`
    abbrev IsMore : ℕ → Made → Name → Type 0
    IsMore n made label = (at made label ≡ at base label)
        ⊎ ((n < length label) × (d : Thing) × (at made label ≡ Some d) × InQuestion answers d every)

    -- a question has its element at a label that is longer than that
    abbrev HasIts : ℕ → Made → Question → Type 0
    HasIts n made question = (label : Name) × (n < length label) × (d : Thing)
        × (at made label ≡ Some d) × InQuestion answers d question

    record More (n : ℕ) (some : List Question) : Type 0 where
      made : Made
      more : (label : Name) → IsMore n made label
      each : AllOf (HasIts n made) some

    -- with one element more
    module _ (n : ℕ) (d : Thing) (is_element : IsElement d) (made : Made) where
      abbrev larger : Made
      larger = with_one (row_of_a n) d (row_is_label n) is_element made

      keeps_its : (question : Question) → HasIts (suc n) made question
          → HasIts n larger question
      keeps_its question (label, long, e, there, is) =
          let row_long = row_is_long n in (
            label,
            omega arith,
            e,
            found_elsewhere (row_of_a n) d made.fields label
                (lengths_differ (row_of_a n) label (omega arith)) ∙ there,
            is,
          )

      one_more : InQuestion answers d every → (label : Name) → IsMore (suc n) made label
          → IsMore n larger label
      one_more inside label more = by_name (cases_Bool (bytes_eq (row_of_a n) label)) more
        where
          long : n < length (row_of_a n)
          long = let row_long = row_is_long n in omega arith

          by_name : (bytes_eq (row_of_a n) label ≡ true) ⊎ (bytes_eq (row_of_a n) label ≡ false)
              → IsMore (suc n) made label → IsMore n larger label
          by_name (inl same) more =
              let is = (bytes_eq-Decides (row_of_a n) label).0 same in
              inr (
                subst (λ (name : Name). n < length name) is long,
                d,
                subst (λ (name : Name). at larger name ≡ Some d) is
                    (found_there (row_of_a n) d made.fields),
                inside,
              )
          by_name (inr other) (inl same) =
              inl (found_elsewhere (row_of_a n) d made.fields label other ∙ same)
          by_name (inr other) (inr (far, e, there, is)) = inr (
            omega arith,
            e,
            found_elsewhere (row_of_a n) d made.fields label other ∙ there,
            is,
          )

    have_more : (some : List Question) → AllOf Has some
        → AllOf (λ question. (d : Thing) → IsElement d → InQuestion answers d question
        → InQuestion answers d every) some
        → (n : ℕ) → More n some
    have_more [] each within n = record { made = base; more = λ label. inl refl; each = tt }
    have_more (question ∷ some) each within n =
        by_first each.0 (have_more some each.1 within.1 (suc n))
      where
        by_first : Has question → More (suc n) some → More n (question ∷ some)
        by_first (d, is_element, is) rest = record {
          made = larger n d is_element rest.made;
          more = λ label. one_more n d is_element rest.made (within.0 d is_element is) label
              (rest.more label);
          each = (
            (
              row_of_a n,
              (let long = row_is_long n in omega arith),
              d,
              found_there (row_of_a n) d rest.made.fields,
              is,
            ),
            each_weaker (HasIts (suc n) rest.made) (HasIts n (larger n d is_element rest.made))
                (keeps_its n d is_element rest.made) some rest.each,
          );
        }

  -- nothing, or a thing of `every`
  abbrev Free : Row → Option Thing → Type 0
  Free row what = IsInCell answers what (record { absent = true; value = row.every })

  -- With these a record is in the row, if it was in the cells, and had what `every` asks elsewhere
  module _ (row : Row) (n : ℕ)
      (short : (label : Name) → IsOneOf (labels_in row.cells) label → length label ≤ n)
      (base : Made) (more : More row.every base n row.some) where
    abbrev made : Made
    made = more.made

    -- short labels have what they had
    as_before : (label : Name) → length label ≤ n → at made label ≡ at base label
    as_before label below = by_more (more.more label)
      where
        by_more : IsMore row.every base n made label → at made label ≡ at base label
        by_more (inl same) = same
        by_more (inr (long, d, there, is)) = absurd (omega arith)

    as_one : (label : Name) → AnyOf (λ cell. cell.0 ≡ label) row.cells → length label ≤ n
    as_one label one =
        short label (one_of_map (λ cell. cell.0) (λ name. name ≡ label) row.cells one)

    cells_still : (cells : List (Name × Cell))
        → ((label : Name) → AnyOf (λ cell. cell.0 ≡ label) cells → length label ≤ n)
        → AllOf (InCell base) cells → AllOf (InCell made) cells
    cells_still [] below each = tt
    cells_still (cell ∷ cells) below each = (
      subst (λ (what : Option Thing). IsInCell answers what cell.1)
          (sym (as_before cell.0 (below cell.0 (inl refl)))) each.0,
      cells_still cells (λ label one. below label (inr one)) each.1,
    )

    abbrev InEvery : Made → Name → Type 0
    InEvery made label = Free row (at made label)

    every_still : ((label : Name) → IsOfNoCell row label → InEvery base label) → (label : Name)
        → IsOfNoCell row label → InEvery made label
    every_still every label none = by_more (more.more label)
      where
        by_more : IsMore row.every base n made label → InEvery made label
        by_more (inl same) = subst (Free row) (sym same) (every label none)
        by_more (inr (long, d, there, is)) = subst (Free row) (sym there) is

    some_elsewhere : (question : Question) → HasIts row.every base n made question
        → HasElsewhere answers (at made) row question
    some_elsewhere question (label, long, d, there, is) = (
      label,
      λ one. (let below = as_one label one in absurd (omega arith)),
      subst (λ (what : Option Thing). IsInCell answers what
          (record { absent = false; value = question })) (sym there) is,
    )

    in_row : AllOf (InCell base) row.cells
        → ((label : Name) → IsOfNoCell row label → InEvery base label)
        → InRecordRow answers made.fields row
    in_row inside every = subst (λ (at : Name → Option Thing). IsInRow answers at row)
        (λ i label. sym (found_is made.fields label) i) (
          cells_still row.cells as_one inside,
          every_still every,
          each_weaker (HasIts row.every base n made) (HasElsewhere answers (at made) row)
              some_elsewhere row.some more.each,
        )

  module _ (row : Row) (witnesses : RowHasWitnesses answers IsElement row) where
    abbrev more_than : (n : ℕ) → (base : Made) → More row.every base n row.some
    more_than n base = have_more row.every base row.some witnesses.some witnesses.within n

    pub has_record : (fields : thing.Fields) × IsElement (thing.Record fields)
        × InRecordRow answers fields row
    has_record =
        let fits = fit_cells row.cells witnesses.labels witnesses.once witnesses.cells in
        let n = longest (labels_in row.cells) in
        let more = more_than n fits.made in (
          more.made.fields,
          (more.made.rises, more.made.are),
          in_row row n (no_longer (labels_in row.cells)) fits.made more fits.inside
              (λ label none. subst (Free row) (sym (fits.nothing label none)) refl),
        )

    every_there : (cells : List (Name × Cell)) (label : Name) → NoCell cells label
        → cell_in cells row.every label ≡ record { absent = true; value = row.every }
    every_there [] label none = refl
    every_there (cell ∷ cells) label none =
        ap (λ (test : Bool). if test then cell.1 else cell_in cells row.every label)
        (differ cell.0 label (λ same. none (inl same)))
        ∙ every_there cells label (λ one. none (inr one))

    pub has_picked : (label : Name) (e : Thing) → IsLabel label → IsElement e
        → InQuestion answers e (asked_at row label)
        → (fields : thing.Fields) × IsElement (thing.Record fields)
        × InRecordRow answers fields row × (thing_at fields label ≡ Some e)
    has_picked label e is_label is_element is =
        let picks = pick row.every label e is_label is_element row.cells witnesses.labels witnesses.once
        witnesses.cells is in
        let n = longest (label ∷ labels_in row.cells) in
        let more = more_than n picks.made in
        let short = λ (name : Name) (one : IsOneOf (labels_in row.cells) name).
        no_longer (label ∷ labels_in row.cells) name (inr one) in (
          more.made.fields,
          (more.made.rises, more.made.are),
          in_row row n short picks.made more picks.inside (every picks),
          found_is more.made.fields label
              ∙ (as_before row n short picks.made more label
              (no_longer (label ∷ labels_in row.cells) label (inl refl)) ∙ picks.there),
        )
      where
        every : (picks : Picks row.every label e is_label is_element row.cells) → (other : Name)
            → IsOfNoCell row other → Free row (at picks.made other)
        every picks other none = by_name (cases_Bool (bytes_eq label other))
          where
            by_name : (bytes_eq label other ≡ true) ⊎ (bytes_eq label other ≡ false)
                → Free row (at picks.made other)
            by_name (inl same) =
                let there = (bytes_eq-Decides label other).0 same in
                subst (λ (name : Name). Free row (at picks.made name)) there
                (subst (Free row) (sym picks.there)
                (subst (λ (cell : Cell). InQuestion answers e cell.value)
                (every_there row.cells label
                (subst (IsOfNoCell row) (sym there) none)) is))
            by_name (inr apart) = subst (Free row)
                (sym (picks.nothing other none
                (λ same. true≢false (sym ((bytes_eq-Decides label other).1 same) ∙ apart))))
                refl

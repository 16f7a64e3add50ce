-- What a binary search finds among rows whose spellings rise.
use Rattle.std.proofs.Common.{arith, ◌≡◌, ◌∙◌, sym, ap, refl, ℕ, zero, suc, ◌<◌, ◌≤◌, true, false, List, [], ◌∷◌}
use Rattle.std.proofs.Common.{length, get_or, Option, Some, None, inl, inr}
use Rattle.std.specs.Prelude.{◌&&◌, bytes_eq}
use Rattle.std.specs.Ordering.{nat_cmp, is_eq, is_lt, ordering_index, ordering_reverse}
use Rattle.std.specs.declared.cmp.Ordering.{Ordering}
use Rattle.std.specs.declared.cmp.Ordering.TheVariants.{Less, Equal, Greater}
use Rattle.std.specs.Cmp.{Equal-is}
use Rattle.std.specs.Cmp.Lexicographic.{slice_cmp}
use Rattle.std.specs.List.Sorted.{IsNonDecreasingBy, IsPartitionPoint}
use Rattle.std.proofs.lemmas.Bool.{cond-true, cond-false, and_parts, cases_lt, false_from_ne_true}
use Rattle.std.proofs.lemmas.Cmp.{nat_list_cmp_total, alike_right}
use Rattle.std.proofs.lemmas.Map.Text.{is_eq-slice_cmp}
use Rattle.cd_tables.specs.Spelling.{spelled, rises_after, is_above, is_spelling}
use Rattle.cd_tables.specs.Rows.{row_of, rows_of, fields_of}
use Rattle.cd_tables.specs.declared.row.TableRow.{TableRow}

-- how words compare
abbrev order : List ℕ → List ℕ → Ordering
order = slice_cmp nat_cmp

reversed : (one other : List ℕ) (o : Ordering) → order one other ≡ o → order other one ≡ ordering_reverse o
reversed one other o is = nat_list_cmp_total.antisymm other one ∙ ap ordering_reverse is

is_less : (o : Ordering) → is_lt o ≡ true → o ≡ Less
is_less Less h = refl
is_less Equal h = absurd cc
is_less Greater h = absurd cc

-- words that compare as equal are the same
same_word : (one word : List ℕ) → order one word ≡ Equal → bytes_eq word one ≡ true
same_word one word equal = sym (is_eq-slice_cmp word one) ∙ ap is_eq (reversed one word Equal equal)

-- and others are not
other_word : (one word : List ℕ) → (order one word ≡ Equal → ⊥) → bytes_eq word one ≡ false
other_word one word other = false_from_ne_true (bytes_eq word one) (λ same.
    let equal = (Equal-is (order word one)).0 (is_eq-slice_cmp word one ∙ same) in
    other (reversed word one Equal equal))

-- of two words that rise, the first is no higher against a third
rises_against : (first second word : List ℕ) → order first second ≡ Less
    → ordering_index (order first word) ≤ ordering_index (order second word)
rises_against first second word less = by (order first word) refl
  where
    above : order word second ≡ Less → ordering_index (order second word) ≡ 2
    above below = ap ordering_index (reversed word second Less below)

    by : (o : Ordering) → order first word ≡ o → ordering_index o ≤ ordering_index (order second word)
    by Less is = omega arith
    by Equal is =
        let high = above (sym (nat_list_cmp_total.congr first word second is) ∙ less) in
        omega (arith, high)
    by Greater is =
        let high = above (nat_list_cmp_total.trans word first second (reversed first word Greater is) less) in
        omega (arith, high)

module _ {V : Type 0} where
  -- what a row spells
  abbrev text : TableRow V → List ℕ
  text row = spelled row.spelling

  -- how it compares with a word
  abbrev pub against : List ℕ → TableRow V → Ordering
  against word row = order (text row) word

  -- rows whose spellings rise after what stands before them
  abbrev pub Rise : Option (List ℕ) → List (TableRow V) → Type 0
  Rise before rows = rises_after before (fields_of rows) ≡ true

  -- the rows after the first rise from there
  rest : (before : Option (List ℕ)) (row : TableRow V) (rows : List (TableRow V)) → Rise before (row ∷ rows)
      → Rise (Some row.spelling) rows
  rest before row rows rise =
      let field = row.spelling in
      (and_parts (is_spelling field && is_above before field) (rises_after (Some field) (fields_of rows)) rise).1

  -- and the first is above what stands before it
  first : (before : List ℕ) (row : TableRow V) (rows : List (TableRow V)) → Rise (Some before) (row ∷ rows)
      → order (spelled before) (text row) ≡ Less
  first before row rows rise =
      let field = row.spelling in
      let above = is_above (Some before) field in
      let both = (and_parts (is_spelling field && above) (rises_after (Some field) (fields_of rows)) rise).0 in
      is_less (order (spelled before) (text row)) (and_parts (is_spelling field) above both).1

  -- all rows are above what stands before them
  all_above : (before : List ℕ) (rows : List (TableRow V)) → Rise (Some before) rows
      → (k : ℕ) (d : TableRow V) → k < length rows → order (spelled before) (text (get_or rows k d)) ≡ Less
  all_above before [] rise k d below = absurd (omega arith)
  all_above before (row ∷ rows) rise zero d below = first before row rows rise
  all_above before (row ∷ rows) rise (suc k) d below =
      let later = all_above row.spelling rows (rest (Some before) row rows rise) k d (omega arith) in
      nat_list_cmp_total.trans (spelled before) (text row) (text (get_or rows k d)) (first before row rows rise) later

  -- rows that rise do so against a word
  pub rise_against : (word : List ℕ) (before : Option (List ℕ)) (rows : List (TableRow V)) → Rise before rows
      → IsNonDecreasingBy (λ row. ordering_index (against word row)) rows
  rise_against word before [] rise i j d le below = absurd (omega arith)
  rise_against word before (row ∷ rows) rise zero zero d le below = omega arith
  rise_against word before (row ∷ rows) rise zero (suc j) d le below =
      let less = all_above row.spelling rows (rest before row rows rise) j d (omega arith) in
      rises_against (text row) (text (get_or rows j d)) word less
  rise_against word before (row ∷ rows) rise (suc i) zero d le below = absurd (omega arith)
  rise_against word before (row ∷ rows) rise (suc i) (suc j) d le below =
      rise_against word (Some row.spelling) rows (rest before row rows rise) i j d (omega arith) (omega arith)

  -- a row that spells the word is found
  here : (word : List ℕ) (row : TableRow V) (rows : List (TableRow V)) → against word row ≡ Equal
      → row_of (rows_of (row ∷ rows)) word ≡ Some row.value
  unfolding row_of
  here word row rows equal = cond-true (bytes_eq word (text row)) _ _ (same_word (text row) word equal)

  -- one that does not is passed over
  later : (word : List ℕ) (row : TableRow V) (rows : List (TableRow V)) → (against word row ≡ Equal → ⊥)
      → row_of (rows_of (row ∷ rows)) word ≡ row_of (rows_of rows) word
  unfolding row_of
  later word row rows other = cond-false (bytes_eq word (text row)) _ _ (other_word (text row) word other)

  -- the row at which the search ends is the one with the word
  pub found : (word : List ℕ) (before : Option (List ℕ)) (rows : List (TableRow V)) → Rise before rows
      → (place : ℕ) (d : TableRow V) → place < length rows → against word (get_or rows place d) ≡ Equal
      → row_of (rows_of rows) word ≡ Some (get_or rows place d).value
  found word before [] rise place d below equal = absurd (omega arith)
  found word before (row ∷ rows) rise zero d below equal = here word row rows equal
  found word before (row ∷ rows) rise (suc place) d below equal =
      let after = rest before row rows rise in
      let row_is = get_or rows place d in
      let alike = alike_right nat_list_cmp_total (text row_is) word (text row) equal in
      let less = sym alike ∙ all_above row.spelling rows after place d (omega arith) in
      later word row rows (λ same. omega (arith, ap ordering_index (sym less ∙ same)))
      ∙ found word (Some row.spelling) rows after place d (omega arith) equal

  -- where no row spells the word, none is found
  absent : (word : List ℕ) (rows : List (TableRow V))
      → ((k : ℕ) (d : TableRow V) → k < length rows → against word (get_or rows k d) ≡ Equal → ⊥)
      → row_of (rows_of rows) word ≡ None
  unfolding row_of
  absent word [] none = refl
  absent word (row ∷ rows) none =
      later word row rows (none 0 row (omega arith)) ∙ absent word rows (λ k d below. none (suc k) d (omega arith))

  -- so it is where the search ends between two rows
  pub between : (word : List ℕ) (rows : List (TableRow V)) (place : ℕ)
      → IsPartitionPoint (λ row. against word row ≡ Less) (λ row. against word row ≡ Greater) rows place
      → row_of (rows_of rows) word ≡ None
  between word rows place parted = absent word rows (λ k d below equal. elim (cases_lt k place) [
    | inl before ↦ let less = parted.0 k d (omega arith) before in omega (arith, ap ordering_index (sym less ∙ equal))
    | inr after ↦ let more = parted.1 k d after below in omega (arith, ap ordering_index (sym more ∙ equal))
  ])

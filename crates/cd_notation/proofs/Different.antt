-- Labels that differ by their numbers differ in any order, and by their names.
use Rattle.std.proofs.Common.{◌≡◌, ◌∙◌, ℕ, ◌+◌, ◌<◌, ◌≤◌, ◌==◌, Bool, true, false, ◌||◌, List, [], ◌∷◌, length, map, refl, sym, subst, true≢false, arith, inl, inr, if◌then◌else◌, nat_lt}
use Rattle.std.specs.Prelude.{IsTrue}
use Rattle.std.specs.List.{sum_by, AllByRecursion}
use Rattle.std.specs.List.Sorted.{IsPermutation}
use Rattle.std.proofs.lemmas.Bool.{cases_Bool}
use Rattle.std.proofs.lemmas.Bool.Decides.{nat_tests}
use Rattle.std.proofs.lemmas.List.{get_or_past}
use Rattle.std.proofs.lemmas.List.Sorted.{sum_by-IsPermutation}
use Rattle.std.proofs.lemmas.List.Sums.{sum_by-cons}
use Rattle.cd_syntax.specs.Name.{Name, IsLabel, is_word}
use Rattle.cd_model.specs.AllOf.{AllOf}
use Rattle.cd_cells.specs.declared.cell.Part.{Part}
use Rattle.cd_cells.specs.Cells.{name_at, HasEachOnce, IsPart}
use Rattle.cd_notation.specs.Open.{is_label_of, LabelsDiffer}
use Rattle.cd_notation.proofs.Rising.{Differ, all_moved}

-- how often a label stands
abbrev one_if : (label : ℕ) → Part → ℕ
one_if label part = if label == part.label then 1 else 0

abbrev count : ℕ → List Part → ℕ
count label parts = sum_by (one_if label) parts

counted : (label : ℕ) (part : Part) (parts : List Part) → count label (part ∷ parts) ≡ one_if label part + count label parts
counted label part parts = sum_by-cons (one_if label) part parts

nowhere : (label : ℕ) (parts : List Part) → is_label_of label (map (λ other. other.label) parts) ≡ false → count label parts ≡ 0
nowhere label [] not = refl
nowhere label (part ∷ parts) not = counted label part parts ∙ by_test (label == part.label) not (nowhere label parts)
  where
    by_test : (same : Bool) → (same || is_label_of label (map (λ other. other.label) parts)) ≡ false
        → (is_label_of label (map (λ other. other.label) parts) ≡ false → count label parts ≡ 0)
        → (if same then 1 else 0) + count label parts ≡ 0
    by_test true not later = absurd (true≢false not)
    by_test false not later = let none = later not in omega arith

nowhere_back : (label : ℕ) (parts : List Part) → count label parts ≡ 0 → is_label_of label (map (λ other. other.label) parts) ≡ false
nowhere_back label [] none = refl
nowhere_back label (part ∷ parts) none = by_test (label == part.label) (sym (counted label part parts) ∙ none) (nowhere_back label parts)
  where
    by_test : (same : Bool) → (if same then 1 else 0) + count label parts ≡ 0
        → (count label parts ≡ 0 → is_label_of label (map (λ other. other.label) parts) ≡ false)
        → (same || is_label_of label (map (λ other. other.label) parts)) ≡ false
    by_test true none later = absurd (omega arith)
    by_test false none later = later (omega arith)

at_most_once : (parts : List Part) → LabelsDiffer parts → (label : ℕ) → count label parts ≤ 1
at_most_once [] differ label = omega arith
at_most_once (part ∷ parts) differ label =
    let here = counted label part parts in
    let later = at_most_once parts differ.1 label in
    elim (cases_Bool (label == part.label)) [
      | inl same ↦
          let is : label ≡ part.label = grind (arith, nat_tests) in
          let none = nowhere label parts (subst (λ n. is_label_of n (map (λ (other : Part). other.label) parts) ≡ false) (sym is) differ.0) in
          let one : one_if label part ≡ 1 = rw same refl in
          omega arith
      | inr other ↦
          let one : one_if label part ≡ 0 = rw other refl in
          omega arith
    ]

differ_by_count : (parts : List Part) → ((label : ℕ) → count label parts ≤ 1) → LabelsDiffer parts
differ_by_count [] once = tt
differ_by_count (part ∷ parts) once = (
  nowhere_back part.label parts (here (once part.label)),
  differ_by_count parts (λ label. later label (once label)),
)
  where
    here : count part.label (part ∷ parts) ≤ 1 → count part.label parts ≡ 0
    here most =
        let all = counted part.label part parts in
        let same : (part.label == part.label) ≡ true = grind (arith, nat_tests) in
        let one : one_if part.label part ≡ 1 = rw same refl in
        omega arith

    later : (label : ℕ) → count label (part ∷ parts) ≤ 1 → count label parts ≤ 1
    later label most = let all = counted label part parts in omega arith

-- in another order they differ
pub still_differ : (parts moved : List Part) → IsPermutation parts moved → LabelsDiffer parts → LabelsDiffer moved
still_differ parts moved same differ =
    differ_by_count moved (λ label.
    subst (λ n. n ≤ 1) (sym (sum_by-IsPermutation (one_if label) parts moved same)) (at_most_once parts differ label))

module _ (names : List Name) (once : HasEachOnce names) where
  -- a label has a number of the names
  has_number : (label : ℕ) → IsLabel (name_at names label) → label < length names
  has_number label named =
      elim (cases_Bool (nat_lt label (length names))) [
        | inl within ↦ grind (arith, nat_tests)
        | inr past ↦
            let nothing = get_or_past names label [] (grind (arith, nat_tests)) in
            absurd (no_word (subst (λ name. IsTrue (is_word name)) nothing named.0))
      ]
    where
      no_word : IsTrue false → ⊥
      no_word is = true≢false (sym is)

  others : (bound : ℕ) (part : Part) (parts : List Part) → IsPart names bound part → AllOf (IsPart names bound) parts
      → is_label_of part.label (map (λ other. other.label) parts) ≡ false
      → AllByRecursion (λ other. name_at names part.label ≡ name_at names other.label → ⊥) parts
  others bound part [] is are not = tt
  others bound part (other ∷ parts) is are not = by_test (part.label == other.label) refl not (others bound part parts is are.1)
    where
      by_test : (same : Bool) → (part.label == other.label) ≡ same
          → (same || is_label_of part.label (map (λ one. one.label) parts)) ≡ false
          → (is_label_of part.label (map (λ one. one.label) parts) ≡ false
          → AllByRecursion (λ one. name_at names part.label ≡ name_at names one.label → ⊥) parts)
          → AllByRecursion (λ one. name_at names part.label ≡ name_at names one.label → ⊥) (other ∷ parts)
      by_test true test not later = absurd (true≢false not)
      by_test false test not later = (
        λ named.
            let same = once part.label other.label (has_number part.label is.0) (has_number other.label are.0.0) named in
            absurd (grind (arith, nat_tests)),
        later not,
      )

  pub names_differ : (bound : ℕ) (parts : List Part) → AllOf (IsPart names bound) parts → LabelsDiffer parts
      → Differ (λ part. name_at names part.label) parts
  names_differ bound [] are differ = tt
  names_differ bound (part ∷ parts) are differ =
      (others bound part parts are.0 are.1 differ.0, names_differ bound parts are.1 differ.1)

-- what each field is, in another order
pub parts_moved : (names : List Name) (bound : ℕ) (parts moved : List Part) → IsPermutation parts moved
    → AllOf (IsPart names bound) parts → AllOf (IsPart names bound) moved
parts_moved names bound parts moved same are =
    back moved (all_moved (IsPart names bound) parts moved same (on parts are))
  where
    on : (parts : List Part) → AllOf (IsPart names bound) parts → AllByRecursion (IsPart names bound) parts
    on [] are = tt
    on (part ∷ parts) are = (are.0, on parts are.1)

    back : (parts : List Part) → AllByRecursion (IsPart names bound) parts → AllOf (IsPart names bound) parts
    back [] are = tt
    back (part ∷ parts) are = (are.0, back parts are.1)

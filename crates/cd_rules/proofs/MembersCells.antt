-- Fields that have at each of some labels what a cell says, and nothing elsewhere; and further ones at fresh labels.
use Rattle.std.proofs.Common.{◌≡◌, ℕ, suc, ◌<◌, true, false, true≢false, List, [], ◌∷◌, length, Option, Some, None}
use Rattle.std.proofs.Common.{bytes_eq, ◌⊎◌, inl, inr, refl, sym, ◌∙◌, subst, arith}
use Rattle.std.proofs.lemmas.Bool.{cases_Bool}
use Rattle.std.proofs.lemmas.Slice.Eq.{bytes_eq-Decides}
use Rattle.cd_syntax.specs.Name.{Name, IsLabel}
use Rattle.cd_model.specs.Thing.{Thing, IsElement, Fields, NoField, LabelsRise, AreFields}
use Rattle.cd_model.specs.AllOf.{AllOf}
use Rattle.cd_model.specs.Formula.{Graph}
use Rattle.cd_model.specs.Membership.{answers, asked}
use Rattle.cd_model.proofs.Labels.{IsOneOf}
use Rattle.cd_rules.specs.Clauses.{RecordType}
use Rattle.cd_rules.specs.Members.{HasElement}
use Rattle.cd_rules.specs.Rows.{Cell}
use Rattle.cd_model.proofs.Ones.{each_weaker}
use Rattle.cd_rules.proofs.FreshLabels.{row_of_a, row_is_long, row_is_label, lengths_differ}
use Rattle.cd_rules.proofs.MembersFields.{found, put, found_there, found_elsewhere, put_rises, put_fields}

-- what may stand in a cell: nothing, where that may be, or an element of its value
abbrev pub FitsCell : Graph → Cell → Option Thing → Type 0
FitsCell graph cell None = cell.absent ≡ true
FitsCell graph cell (Some is) = asked (answers graph is) cell.value true

module _ (graph : Graph) (cell_of : Name → Cell) where
  -- at one of these labels fields have what fits its cell, and at another nothing
  abbrev pub AtLabel : List Name → Fields → Name → Type 0
  AtLabel labels fields label = (IsOneOf labels label × FitsCell graph (cell_of label) (found fields label))
      ⊎ ((IsOneOf labels label → ⊥) × (found fields label ≡ None))

  -- fields that do so
  abbrev pub FitCells : List Name → Type 0
  FitCells labels = (fields : Fields) × LabelsRise None fields × AreFields fields
      × ((label : Name) → AtLabel labels fields label)

  -- what fits a cell, where it is equal to what is there
  fits : (label : Name) (one other : Option Thing) → other ≡ one → FitsCell graph (cell_of label) one
      → FitsCell graph (cell_of label) other
  fits label one other same is = subst (λ (at : Option Thing). FitsCell graph (cell_of label) at) (sym same) is

  -- a label that is another one is none of these with it
  not_first : (first : Name) (labels : List Name) (label : Name) → bytes_eq first label ≡ false
      → (IsOneOf labels label → ⊥) → IsOneOf (first ∷ labels) label → ⊥
  not_first first labels label differ other (inl same) =
      true≢false (sym ((bytes_eq-Decides first label).1 same) ∙ differ)
  not_first first labels label differ other (inr later) = other later

  -- other labels have what they had
  at_other : (first : Name) (labels : List Name) (fields more : Fields) (label : Name) → bytes_eq first label ≡ false
      → found more label ≡ found fields label → AtLabel labels fields label → AtLabel (first ∷ labels) more label
  at_other first labels fields more label differ same (inl (one, is)) =
      inl (inr one, fits label (found fields label) (found more label) same is)
  at_other first labels fields more label differ same (inr (other, none)) =
      inr (not_first first labels label differ other, same ∙ none)

  -- a label with nothing, which may be
  pub with_nothing : (first : Name) (labels : List Name) (fields : Fields) → (cell_of first).absent ≡ true
      → (label : Name) → AtLabel labels fields label → AtLabel (first ∷ labels) fields label
  with_nothing first labels fields free label at = by_name (cases_Bool (bytes_eq first label)) at
    where
      by_name : (bytes_eq first label ≡ true) ⊎ (bytes_eq first label ≡ false) → AtLabel labels fields label
          → AtLabel (first ∷ labels) fields label
      by_name (inl same) (inl (one, is)) = inl (inr one, is)
      by_name (inl same) (inr (other, none)) =
          let first_is = (bytes_eq-Decides first label).0 same in
          let free_there = subst (λ (name : Name). (cell_of name).absent ≡ true) first_is free in
          inl (inl first_is, fits label None (found fields label) none free_there)
      by_name (inr differ) at = at_other first labels fields fields label differ refl at

  -- a label with an element of its cell
  pub with_value : (first : Name) (labels : List Name) (fields : Fields) (is : Thing)
      → asked (answers graph is) (cell_of first).value true
      → (label : Name) → AtLabel labels fields label → AtLabel (first ∷ labels) (put first is fields) label
  with_value first labels fields is asked_so label at = by_name (cases_Bool (bytes_eq first label))
    where
      by_name : (bytes_eq first label ≡ true) ⊎ (bytes_eq first label ≡ false)
          → AtLabel (first ∷ labels) (put first is fields) label
      by_name (inl same) =
          let first_is = (bytes_eq-Decides first label).0 same in
          let here = fits first (Some is) (found (put first is fields) first) (found_there first is fields) asked_so in
          inl (
            inl first_is,
            subst (λ (name : Name). FitsCell graph (cell_of name) (found (put first is fields) name))
                first_is here,
          )
      by_name (inr differ) =
          at_other first labels fields (put first is fields) label differ (found_elsewhere first is fields label differ) at

  -- where each cell may be absent or has an element there are fields
  pub cells_fit : (labels : List Name) → AllOf IsLabel labels
      → AllOf (λ label. ((cell_of label).absent ≡ true) ⊎ HasElement graph (cell_of label).value) labels → FitCells labels
  cells_fit [] are witnesses = (NoField, tt, tt, λ label. inr (λ one. elim one [ ], refl))
  cells_fit (first ∷ labels) are witnesses = by_witnesses witnesses.0 (cells_fit labels are.1 witnesses.1)
    where
      by_witnesses : ((cell_of first).absent ≡ true) ⊎ HasElement graph (cell_of first).value → FitCells labels
          → FitCells (first ∷ labels)
      by_witnesses (inl free) rest =
          (rest.0, rest.1, rest.2, λ label. with_nothing first labels rest.0 free label (rest.3 label))
      by_witnesses (inr (is, is_element, asked_so)) rest = (
        put first is rest.0,
        put_rises None first is rest.0 tt rest.1,
        put_fields first is rest.0 are.0 is_element rest.2,
        λ label. with_value first labels rest.0 is asked_so label (rest.3 label),
      )

module _ (Inside : Thing → Type 0) (Has : RecordType → Thing → Type 0)
    (inside : (type : RecordType) (is : Thing) → Has type is → Inside is)
    (base : Fields) (rises : LabelsRise None base) (are : AreFields base) where
  -- at a label there is what was there, or the label is longer than that and has an element that is inside
  abbrev pub IsMore : ℕ → Fields → Name → Type 0
  IsMore n fields label = (found fields label ≡ found base label)
      ⊎ ((n < length label) × ((is : Thing) × (found fields label ≡ Some is) × Inside is))

  -- a type has its element at a label that is longer than that
  abbrev pub HasIts : ℕ → Fields → RecordType → Type 0
  HasIts n fields type =
      (label : Name) × (n < length label) × ((is : Thing) × (found fields label ≡ Some is) × Has type is)

  -- fields that have an element more for each of these types
  abbrev pub HaveMore : ℕ → List RecordType → Type 0
  HaveMore n types = (fields : Fields) × LabelsRise None fields × AreFields fields
      × ((label : Name) → IsMore n fields label) × AllOf (HasIts n fields) types

  module _ (n : ℕ) (is : Thing) (fields : Fields) where
    -- longer labels have what they had
    longer : (label : Name) → suc n < length label → found (put (row_of_a n) is fields) label ≡ found fields label
    longer label long = let here = row_is_long n in
        found_elsewhere (row_of_a n) is fields label (lengths_differ (row_of_a n) label (omega arith))

    -- so a type that has its element at one keeps it
    pub keeps_its : (type : RecordType) → HasIts (suc n) fields type → HasIts n (put (row_of_a n) is fields) type
    keeps_its type (label, long, (other, there, has_it)) =
        (label, omega arith, (other, longer label long ∙ there, has_it))

    -- with an element more at this label, at each there is what may be there
    pub one_more : Inside is → (label : Name) → IsMore (suc n) fields label → IsMore n (put (row_of_a n) is fields) label
    one_more is_inside label more = by_name (cases_Bool (bytes_eq (row_of_a n) label)) more
      where
        by_name : (bytes_eq (row_of_a n) label ≡ true) ⊎ (bytes_eq (row_of_a n) label ≡ false)
            → IsMore (suc n) fields label → IsMore n (put (row_of_a n) is fields) label
        by_name (inl same) more =
            let row_is = (bytes_eq-Decides (row_of_a n) label).0 same in
            let long = row_is_long n in
            let below : n < length (row_of_a n) = omega arith in
            let there = subst (λ (name : Name). found (put (row_of_a n) is fields) name ≡ Some is) row_is
            (found_there (row_of_a n) is fields) in
            inr (subst (λ (name : Name). n < length name) row_is below, (is, there, is_inside))
        by_name (inr differ) (inl same) = inl (found_elsewhere (row_of_a n) is fields label differ ∙ same)
        by_name (inr differ) (inr (long, (other, there, other_inside))) = inr (
          omega arith,
          (
            other,
            found_elsewhere (row_of_a n) is fields label differ ∙ there,
            other_inside,
          ),
        )

  -- where each type has an element there are fields with one more for each
  pub have_more : (types : List RecordType) (n : ℕ)
      → AllOf (λ type. (is : Thing) × IsElement is × Has type is) types → HaveMore n types
  have_more [] n each = (base, rises, are, λ label. inl refl, tt)
  have_more (type ∷ types) n (first, each) =
      let rest = have_more types (suc n) each in
      let long = row_is_long n in
      let row = row_of_a n in
      let is = first.0 in
      let below : n < length row = omega arith in (
        put row is rest.0,
        put_rises None row is rest.0 tt rest.1,
        put_fields row is rest.0 (row_is_label n) first.1 rest.2,
        λ label. one_more n is rest.0 (inside type is first.2) label (rest.3 label),
        (
          (row, below, (is, found_there row is rest.0, first.2)),
          each_weaker (HasIts (suc n) rest.0) (HasIts n (put row is rest.0)) (keeps_its n is rest.0) types rest.4,
        ),
      )

-- Rows by their numbers, when one is added.
use Rattle.std.proofs.Common.{◌≡◌, ℕ, zero, suc, ◌+◌, ◌<◌, ◌≤◌, Bool, true, false, List, [], ◌∷◌, ◌++◌, Option, Some, None, slice_get, get_or, length, refl, sym, ap, ◌∙◌, subst, arith, add-one, length-append, inl, inr}
use Rattle.std.specs.Prelude.{Result, Ok, Err, IfOk, OnErr, MatchOption, if◌then◌else◌}
use Rattle.std.specs.List.{list_any}
use Rattle.std.proofs.Math.ListN.{get_or-eq_default}
use Rattle.std.proofs.Math.Seq.{get_or-append_seam}
use Rattle.std.proofs.lemmas.Option.{slice_get_within}
use Rattle.indexmap.specs.IndexSet.{insert_key}
use Rattle.cd_asking.specs.Inner.Asked.{Grow, AddsOnly}
use Rattle.cd_asking.specs.Inner.Rows.{row_at, longer_row, rows_from, AreLonger}
use Rattle.cd_asking.specs.declared.row.Answered.{Answered}
use Rattle.cd_asking.specs.declared.row.Longer.{Longer}
use Rattle.cd_asking.specs.declared.row.RowId.{RowId}
use Rattle.cd_asking.proofs.Kept.{grown_none, grown_on, adds_grow, at_stays, row_stays}

one_longer : (rows : List (List Answered)) (longer : Longer) → length (rows ++ longer_row rows longer ∷ []) ≡ suc (length rows)
one_longer rows longer = let count = length-append rows (longer_row rows longer ∷ []) in omega (arith, count)

rows_grow : (rows : List (List Answered)) (more : List Longer) → Grow rows (rows_from rows more)
rows_grow rows [] = grown_none rows
rows_grow rows (longer ∷ more) =
    let next : List (List Answered) = rows ++ longer_row rows longer ∷ [] in
    grown_on rows next (rows_from rows (longer ∷ more)) (longer_row rows longer ∷ [], refl) (rows_grow next more)

rows_after : (rows : List (List Answered)) (more : List Longer) (longer : Longer)
    → rows_from rows (more ++ longer ∷ []) ≡ rows_from rows more ++ longer_row (rows_from rows more) longer ∷ []
rows_after rows [] longer = refl
rows_after rows (first ∷ more) longer = rows_after (rows ++ longer_row rows first ∷ []) more longer

rows_count : (rows : List (List Answered)) (more : List Longer) → length (rows_from rows more) ≡ length rows + length more
rows_count rows [] = omega arith
rows_count rows (longer ∷ more) =
    let rest = rows_count (rows ++ longer_row rows longer ∷ []) more in
    let count = one_longer rows longer in
    omega (arith, rest, count)

longer_more : (before : ℕ) (more : List Longer) (longer : Longer) → AreLonger before more → longer.row.0 ≤ before + length more
    → AreLonger before (more ++ longer ∷ [])
longer_more before [] longer are is = ((omega (arith, is)), tt)
longer_more before (first ∷ more) longer are is = (are.0, longer_more (suc before) more longer are.1 (omega (arith, is)))

-- a row is made of what its place says
longer_at : (rows : List (List Answered)) (more : List Longer) (place : ℕ) (longer : Longer) → AreLonger (length rows) more
    → slice_get more place ≡ Some longer
    → (get_or (rows_from rows more) (length rows + place) [] ≡ longer_row (rows_from rows more) longer) × (longer.row.0 ≤ length rows + place)
longer_at rows [] place longer are is = absurd (cc is)
longer_at rows (first ∷ more) zero longer are is =
    let next : List (List Answered) = rows ++ longer_row rows first ∷ [] in
    let all : List (List Answered) = rows_from next more in
    let count = one_longer rows first in
    let first_is : first ≡ longer = cc is in
    let here : get_or next (length rows) [] ≡ longer_row rows first = get_or-append_seam rows (longer_row rows first) [] [] in
    let stay : get_or all (length rows) [] ≡ get_or next (length rows) [] = at_stays next all [] (rows_grow next more) (length rows) (omega (arith, count)) in
    let same : longer_row all first ≡ longer_row rows first =
    ap (λ row. row ++ first.field ∷ []) (row_stays rows all (rows_grow rows (first ∷ more)) first.row are.0) in
    let place_is : length rows + zero ≡ length rows = omega arith in (
      ap (λ place. get_or all place []) place_is ∙ stay ∙ here ∙ sym same ∙ ap (longer_row all) first_is,
      subst (λ (longer : Longer). longer.row.0 ≤ length rows + zero) first_is (subst (λ (n : ℕ). first.row.0 ≤ n) (sym place_is) are.0),
    )
longer_at rows (first ∷ more) (suc place) longer are is =
    let next : List (List Answered) = rows ++ longer_row rows first ∷ [] in
    let count = one_longer rows first in
    let later = longer_at next more place longer (subst (λ (n : ℕ). AreLonger n more) (sym count) are.1) is in
    let place_is : length rows + suc place ≡ length next + place = omega (arith, count) in (
      ap (λ place. get_or (rows_from next more) place []) place_is ∙ later.0,
      subst (λ (n : ℕ). longer.row.0 ≤ n) (sym place_is) later.1,
    )

-- the rows of a table
abbrev all_rows : List Longer → List (List Answered)
all_rows more = rows_from [] more

row_by_place : (rows : List (List Answered)) (row : RowId) (place : ℕ) → row.0 ≡ suc place → row_at rows row ≡ get_or rows place []
row_by_place rows row place is = ap (λ number. get_or ([] ∷ rows) number []) is

pub row_is_longer : (more : List Longer) (row : RowId) (place : ℕ) (longer : Longer) → row.0 ≡ suc place → AreLonger 0 more
    → slice_get more place ≡ Some longer
    → (row_at (all_rows more) row ≡ longer_row (all_rows more) longer) × (longer.row.0 < row.0)
row_is_longer more row place longer number are is =
    let at = longer_at [] more place longer are is in
    let same : zero + place ≡ place = omega arith in
    let low : longer.row.0 ≤ place = subst (λ (n : ℕ). longer.row.0 ≤ n) same at.1 in (
      row_by_place (all_rows more) row place number ∙ ap (λ place. get_or (all_rows more) place []) (sym same) ∙ at.0,
      (omega (arith, low, number)),
    )

-- a row that is put in
module _ (same : Longer → Longer → Bool) (decides : (one other : Longer) → same one other ≡ true → one ≡ other) (keys : List Longer) (longer : Longer) where
  pub keys_added : {R E : Type 0} (done : Result R E) (after : List Longer) → IfOk done (λ place. after ≡ insert_key same keys longer)
      → OnErr done (after ≡ keys) → AddsOnly longer keys after
  keys_added (Ok place) after put kept = subst (AddsOnly longer keys) (sym put) (by_test (list_any (same longer) keys))
    where
      by_test : (there : Bool) → AddsOnly longer keys (if there then keys else keys ++ longer ∷ [])
      by_test true = inl refl
      by_test false = inr refl
  keys_added (Err error) after put kept = inl kept

  module _ (after : List Longer) (adds : AddsOnly longer keys after) where
    pub still_longer : AreLonger 0 keys → longer.row.0 ≤ length (all_rows keys) → AreLonger 0 after
    still_longer are low =
        let count = rows_count [] keys in
        elim adds [
          | inl is ↦ subst (AreLonger 0) (sym is) are
          | inr is ↦ subst (AreLonger 0) (sym is) (longer_more 0 keys longer are (omega (arith, low, count)))
        ]

    pub rows_added : AddsOnly (longer_row (all_rows keys) longer) (all_rows keys) (all_rows after)
    rows_added = elim adds [
      | inl is ↦ inl (ap all_rows is)
      | inr is ↦ inr (ap all_rows is ∙ rows_after [] keys longer)
    ]

    pub row_added : AreLonger 0 after → longer.row.0 ≤ length (all_rows keys) → (row : RowId) (place : ℕ) → row.0 ≡ place + 1
        → (key : Longer) × (slice_get after place ≡ Some key) × (same longer key ≡ true)
        → (row_at (all_rows after) row ≡ longer_row (all_rows keys) longer)
    row_added are low row place number stored =
        let next : row.0 ≡ suc place = number ∙ add-one place in
        let key_is = decides longer stored.0 stored.2 in
        let grow = adds_grow (longer_row (all_rows keys) longer) (all_rows keys) (all_rows after) rows_added in
        (row_is_longer after row place stored.0 next are stored.1).0
        ∙ ap (longer_row (all_rows after)) (sym key_is)
        ∙ ap (λ row. row ++ longer.field ∷ []) (row_stays (all_rows keys) (all_rows after) grow longer.row low)

place_beyond : {X : Type 0} (list : List X) (place : ℕ) → slice_get list place ≡ None → length list ≤ place
place_beyond [] place is = omega arith
place_beyond (first ∷ list) zero is = absurd (cc is)
place_beyond (first ∷ list) (suc place) is = let later = place_beyond list place is in omega (arith, later)

-- the number is one of the rows
pub number_within : (after : List Longer) (row : RowId) (place : ℕ) (key : Longer) → row.0 ≡ place + 1 → slice_get after place ≡ Some key
    → row.0 ≤ length (all_rows after)
number_within after row place key number is =
    let all = rows_count [] after in
    let within = slice_get_within after place key is in
    omega (arith, number, within, all)

-- what is found at the place of a row
pub parts_of : (keys : List Longer) (row : RowId) (place : ℕ) (found : Option Longer) → row.0 ≡ suc place → AreLonger 0 keys
    → found ≡ slice_get keys place
    → MatchOption found (row_at (all_rows keys) row ≡ [])
    (λ is. (row_at (all_rows keys) row ≡ row_at (all_rows keys) is.row ++ is.field ∷ []) × (is.row.0 < row.0))
parts_of keys row place None number are is =
    let all = rows_count [] keys in
    let beyond = place_beyond keys place (sym is) in
    row_by_place (all_rows keys) row place number ∙ get_or-eq_default (all_rows keys) [] (omega (arith, all, beyond))
parts_of keys row place (Some longer) number are is = row_is_longer keys row place longer number are (sym is)

-- An entry of a list that holds the rows is that of its row.
use Rattle.std.proofs.Common.{◌≡◌, ◌∙◌, sym, ap, refl, ℕ, zero, suc, ◌+◌, ◌-◌, ◌*◌, List, [], ◌∷◌, Some, None}
use Rattle.std.proofs.Common.{Bool, true, false, arith, eqb-true, eq-eqb, ne_eqb, ltb-true, lt-ltb, le-ltb}
use Rattle.std.specs.Prelude.{◌<◌, ◌≤◌, nat_eq, nat_lt}
use Rattle.cd_lr.specs.Tables.{Table, leaf, node, choose, also, find}
use Rattle.cd_lr.specs.Flat.{entry, entries_from, entries_before, size, numbered}
use Rattle.cd_lr.proofs.Bools.{first_also, second_also}

module _ {A : Type 0} (cell : A → ℕ → ℕ) where
  in_row : (row : A) (count from : ℕ) (more : List ℕ) (k : ℕ) → k < count
      → entry (entries_from cell row count from more) k ≡ cell row (from + k)
  in_row row zero from more k small = absurd (omega (arith, small))
  in_row row (suc count) from more zero small = ap (cell row) (omega arith)
  in_row row (suc count) from more (suc k) small =
      in_row row count (suc from) more k (omega (arith, small)) ∙ ap (cell row) (omega arith)

  past_row : (row : A) (count from : ℕ) (more : List ℕ) (k : ℕ)
      → entry (entries_from cell row count from more) (count + k) ≡ entry more k
  past_row row zero from more k = ap (entry more) (omega arith)
  past_row row (suc count) from more k =
      let same : suc count + k ≡ suc (count + k) = omega arith in
      ap (entry (cell row from ∷ entries_from cell row count (suc from) more)) same
      ∙ past_row row count (suc from) more k

  past : (count : ℕ) (t : Table A) (more : List ℕ) (j : ℕ)
      → entry (entries_before cell count t more) (size t * count + j) ≡ entry more j
  past count leaf more j = ap (entry more) (grind (arith))
  past count (node k row left right) more j =
      let after = entries_before cell count right more in
      let l = past count left (entries_from cell row count zero after) (count + (size right * count + j)) in
      let place : (size left + suc (size right)) * count + j ≡ size left * count + (count + (size right * count + j)) =
      grind (arith) in
      ap (entry (entries_before cell count (node k row left right) more)) place ∙ l
      ∙ past_row row count zero after (size right * count + j) ∙ past count right more j

  -- past the last row there is nothing
  pub past_table : (count : ℕ) (t : Table A) (i k : ℕ) → size t ≤ i
      → entry (entries_before cell count t []) (i * count + k) ≡ zero
  past_table count t i k more =
      let row : i ≡ size t + (i - size t) = omega (arith, more) in
      let place : (size t + (i - size t)) * count + k ≡ size t * count + ((i - size t) * count + k) = grind (arith) in
      ap (λ n. entry (entries_before cell count t []) (n * count + k)) row
      ∙ ap (entry (entries_before cell count t [])) place ∙ past count t [] ((i - size t) * count + k)

  module _ (key : ℕ) (row : A) (left right : Table A) (n : ℕ) where
    find_low : n < key → find (node key row left right) n ≡ find left n
    find_low less =
        ap (λ b. choose b (Some row) (choose (nat_lt n key) (find left n) (find right n)))
        (ne_eqb n key (λ same. omega (arith, less, same)))
        ∙ ap (λ b. choose b (find left n) (find right n)) (lt-ltb n key less)

    find_here : n ≡ key → find (node key row left right) n ≡ Some row
    find_here same =
        ap (λ b. choose b (Some row) (choose (nat_lt n key) (find left n) (find right n)))
        (eq-eqb n key same)

    find_high : key < n → find (node key row left right) n ≡ find right n
    find_high more =
        ap (λ b. choose b (Some row) (choose (nat_lt n key) (find left n) (find right n)))
        (ne_eqb n key (λ same. omega (arith, more, same)))
        ∙ ap (λ b. choose b (find left n) (find right n)) (le-ltb n key (omega (arith, more)))

  -- there is a row of this number, and its entries stand from this place on
  abbrev pub Stands : (count : ℕ) → Table A → (n : ℕ) → List ℕ → (i : ℕ) → Type 0
  Stands count t n entries i =
      (row : A) × (find t n ≡ Some row) × ((k : ℕ) → k < count → entry entries (i * count + k) ≡ cell row k)

  module _ (count key : ℕ) (row : A) (left right : Table A) (from : ℕ) (more : List ℕ) (i : ℕ)
      (is : key ≡ from + size left) (small : i < size left + suc (size right)) where
    abbrev last : List ℕ
    last = entries_before cell count right more

    abbrev after : List ℕ
    after = entries_from cell row count zero last

    abbrev entries : List ℕ
    entries = entries_before cell count left after

    abbrev StandsHere : Type 0
    StandsHere = Stands count (node key row left right) (from + i) entries i

    abbrev StandsAbove : (j : ℕ) → Type 0
    StandsAbove j = Stands count right ((from + suc (size left)) + j) last j

    here : i ≡ size left → StandsHere
    here same = (
      row,
      find_here key row left right (from + i) (omega (arith, same, is)),
      λ k less.
          ap (λ m. entry entries (m * count + k)) same ∙ past count left after k
          ∙ in_row row count zero last k less ∙ ap (cell row) (omega arith),
    )

    place : (j k : ℕ) → (size left + suc j) * count + k ≡ size left * count + (count + (j * count + k))
    place j k = grind (arith)

    above : (j : ℕ) → i ≡ size left + suc j → StandsAbove j → StandsHere
    above j same found =
        let number : (from + suc (size left)) + j ≡ from + i = omega (arith, same) in (
          found.0,
          find_high key row left right (from + i) (omega (arith, same, is)) ∙ ap (find right) (sym number) ∙ found.1,
          λ k less.
              ap (λ m. entry entries (m * count + k)) same ∙ ap (entry entries) (place j k)
              ∙ past count left after (count + (j * count + k)) ∙ past_row row count zero last (j * count + k)
              ∙ found.2 k less,
        )

    apart : (m n : ℕ) → nat_lt m n ≡ false → nat_eq m n ≡ false → n < m
    apart m n a b = grind (arith)

    at_node : (i < size left → Stands count left (from + i) entries i)
        → ((j : ℕ) → j < size right → StandsAbove j) → StandsHere
    at_node low high = by (nat_lt i (size left)) refl (nat_eq i (size left)) refl
      where
        by : (small : Bool) → nat_lt i (size left) ≡ small → (same : Bool) → nat_eq i (size left) ≡ same → StandsHere
        by true a same b =
            let less : i < size left = ltb-true i (size left) a in
            let found = low less in
            (found.0, find_low key row left right (from + i) (omega (arith, less, is)) ∙ found.1, found.2)
        by false a true b = here (eqb-true i (size left) b)
        by false a false b =
            let big : size left < i = apart i (size left) a b in
            above (i - suc (size left)) (omega (arith, big)) (high (i - suc (size left)) (omega (arith, big, small)))

  pub in_table : (count : ℕ) (t : Table A) (from : ℕ) (more : List ℕ) → numbered t from ≡ true → (i : ℕ) → i < size t
      → Stands count t (from + i) (entries_before cell count t more) i
  in_table count leaf from more is i small = absurd (omega (arith, small))
  in_table count (node key row left right) from more is i small =
      let above = numbered right (from + suc (size left)) in
      let rest = second_also (numbered left from) (also (nat_eq key (from + size left)) above) is in
      let here : key ≡ from + size left = eqb-true _ _ (first_also (nat_eq key (from + size left)) above rest) in
      at_node count key row left right from more i here small
      (λ less. in_table count left from (entries_from cell row count zero (entries_before cell count right more))
      (first_also (numbered left from) _ is) i less)
      (λ j fits. in_table count right (from + suc (size left)) more
      (second_also (nat_eq key (from + size left)) above rest) j fits)

-- no row has a number past the last one
pub none_past : {A : Type 0} (t : Table A) (from n : ℕ) → numbered t from ≡ true → from + size t ≤ n → find t n ≡ None
none_past leaf from n is more = refl
none_past (node key row left right) from n is more =
    let above = numbered right (from + suc (size left)) in
    let rest = second_also (numbered left from) (also (nat_eq key (from + size left)) above) is in
    let here : key ≡ from + size left = eqb-true _ _ (first_also (nat_eq key (from + size left)) above rest) in
    let others = second_also (nat_eq key (from + size left)) above rest in
    find_high (λ a k. zero) key row left right n (omega (arith, here, more))
    ∙ none_past right (from + suc (size left)) n others (omega (arith, more))

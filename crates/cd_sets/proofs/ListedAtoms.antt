-- Lists of atoms: what they hold, and atoms that none of them lists.
use Rattle.std.proofs.Common.{◌≡◌, ℕ, zero, suc, ◌+◌, ◌<◌, ◌≤◌, ◌==◌, Bool, true, false, ◌&&◌, ◌||◌, not, List, [], ◌∷◌, ◌++◌, length, take, get_or, max, IsTrue, codes, string_bytes, bytes_eq}
use Rattle.std.proofs.Common.{◌⊎◌, inl, inr, refl, sym, ◌∙◌, ap, subst, Some, slice_get, String, arith}
use Rattle.std.proofs.Math.Bool.{beq}
use Rattle.std.specs.List.{All, list_all, IsDistinct, repeat}
use Rattle.std.proofs.lemmas.Bool.{cases_Bool, true≢false, eqb-true}
use Rattle.std.proofs.lemmas.Cmp.{nat_list_eq_equiv}
use Rattle.std.proofs.lemmas.List.{get_or-map, map-append, take_more, length-map}
use Rattle.std.proofs.lemmas.List.Elements.{All-nil, All-cons, All-push, All-head, All-tail, All-more, All-map, All-weaker}
use Rattle.std.proofs.lemmas.Map.Keys.{IsDistinct-push}
use Rattle.std.proofs.lemmas.Slice.Eq.{bytes_eq-Decides}
use Rattle.cd_sets.specs.Atoms.{IsAtom, AreAtoms, Atoms, is_listed, holds, HoldsNoAtom, listing, leaving_out, is_kept, goes_on_name, is_name, texts}

-- no names are a list of atoms
pub are_none : AreAtoms []
unfolding IsDistinct
are_none = record { each = All-nil IsAtom; once = tt }

-- and so are some with one more that isn't among them
pub are_more : (names : List (List ℕ)) (name : List ℕ) → AreAtoms names → IsAtom name → is_listed names name ≡ false
    → AreAtoms (names ++ name ∷ [])
are_more names name are atom new = record {
  each = All-push IsAtom names name are.each atom;
  once = IsDistinct-push nat_list_eq_equiv names name are.once new;
}

-- what lists with one more name hold
pub listed_more : (names : List (List ℕ)) (name q : List ℕ)
    → is_listed (names ++ name ∷ []) q ≡ (is_listed names q || bytes_eq q name)
listed_more [] name q = by_cases (bytes_eq q name)
  where
    by_cases : (b : Bool) → (b || false) ≡ (false || b)
    by_cases true = refl
    by_cases false = refl
listed_more (first ∷ names) name q = by_cases (bytes_eq q first) (listed_more names name q)
  where
    by_cases : (b : Bool) → is_listed (names ++ name ∷ []) q ≡ (is_listed names q || bytes_eq q name)
        → (b || is_listed (names ++ name ∷ []) q) ≡ ((b || is_listed names q) || bytes_eq q name)
    by_cases true same = refl
    by_cases false same = same

-- equal names pass the same tests
pub same_name : (q name : List ℕ) → bytes_eq q name ≡ true → q ≡ name
same_name q name = (bytes_eq-Decides q name).0

-- a name is equal to itself
pub is_itself : (name : List ℕ) → bytes_eq name name ≡ true
is_itself name = (bytes_eq-Decides name name).1 refl

-- a longer name isn't among some
pub longer_is_new : (names : List (List ℕ)) (name : List ℕ) (most : ℕ) → All (λ each. length each ≤ most) names
    → most < length name → is_listed names name ≡ false
longer_is_new [] name most all longer = refl
longer_is_new (first ∷ names) name most all longer =
    by_cases (cases_Bool (bytes_eq name first)) (longer_is_new names name most (All-tail P first names all) longer)
  where
    P : List ℕ → Type 0
    P each = length each ≤ most

    by_cases : ((bytes_eq name first ≡ true) ⊎ (bytes_eq name first ≡ false)) → is_listed names name ≡ false
        → is_listed (first ∷ names) name ≡ false
    by_cases (inl same) rest =
        let here : length first ≤ most = All-head (λ each. length each ≤ most) first names all in
        let equal = ap length (same_name name first same) in
        absurd (omega arith)
    by_cases (inr other) rest = simp (other, rest) refl

-- a row of `a`
row_goes_on : (n : ℕ) → list_all goes_on_name (repeat n (97 ∷ []) ++ 97 ∷ []) ≡ true
row_goes_on zero = refl
row_goes_on (suc n) = row_goes_on n

row_is_long : (n : ℕ) → length {A = ℕ} (repeat n (97 ∷ []) ++ 97 ∷ []) ≡ suc n
row_is_long zero = refl
row_is_long (suc n) = ap suc (row_is_long n)

row_is_name : (n : ℕ) → is_name (repeat n (97 ∷ []) ++ 97 ∷ []) ≡ true
row_is_name zero = refl
row_is_name (suc n) = row_goes_on n

row_is_no_line : (n : ℕ) → bytes_eq (repeat n (97 ∷ []) ++ 97 ∷ []) (codes "_") ≡ false
row_is_no_line zero = refl
row_is_no_line (suc n) = refl

-- a row of `a` is an atom
pub row_is_atom : (n : ℕ) → IsAtom (repeat n (97 ∷ []) ++ 97 ∷ [])
row_is_atom n =
    (row_is_name n, λ same. true≢false (sym ((bytes_eq-Decides _ _).1 same) ∙ row_is_no_line n))

-- and isn't among names that are no longer than one less
pub row_is_new : (n : ℕ) (names : List (List ℕ)) → All (λ each. length each ≤ n) names
    → is_listed names (repeat n (97 ∷ []) ++ 97 ∷ []) ≡ false
row_is_new n names all =
    let long = row_is_long n in
    longer_is_new names (repeat n (97 ∷ []) ++ 97 ∷ []) n all (omega arith)

-- the length of the longest name
most : List (List ℕ) → ℕ
most [] = 0
most (name ∷ names) = max (length name) (most names)

most_is_most : (names : List (List ℕ)) → All (λ each. length each ≤ most names) names
unfolding most
most_is_most [] = All-nil (λ each. length each ≤ 0)
most_is_most (name ∷ names) =
    All-cons (λ each. length each ≤ max (length name) (most names)) name names (omega arith)
    (All-weaker (λ each. length each ≤ most names) (λ each. length each ≤ max (length name) (most names))
    (λ each below. omega arith) names (most_is_most names))

-- a set of all but some atoms holds an atom
pub rest_holds : (names : List (List ℕ)) → HoldsNoAtom (leaving_out names) → ⊥
rest_holds names nothing =
    let row = repeat (most names) (97 ∷ []) ++ 97 ∷ [] in
    let new = row_is_new (most names) names (most_is_most names) in
    let held : holds (leaving_out names) row ≡ true = ap not new in
    true≢false (sym held ∙ nothing row (row_is_atom (most names)))

-- a set that lists a name holds it
pub first_holds : (name : List ℕ) (names : List (List ℕ)) → AreAtoms (name ∷ names) → HoldsNoAtom (listing (name ∷ names)) → ⊥
first_holds name names are nothing =
    let held : holds (listing (name ∷ names)) name ≡ true = ap (λ b. b || is_listed names name) (is_itself name) in
    true≢false (sym held ∙ nothing name (All-head IsAtom name names are.each))

-- the first of the listed names is an atom that is among them
pub first_is_atom : (names : List (List ℕ)) (q : List ℕ) → AreAtoms names → slice_get names 0 ≡ Some q
    → IsAtom q × (is_listed names q ≡ true)
first_is_atom [] q are first = absurd cc
first_is_atom (name ∷ names) q are first =
    let same : name ≡ q = cc in (
      subst IsAtom same (All-head IsAtom name names are.each),
      ap (λ b. b || is_listed names q) (subst (λ (n : List ℕ). bytes_eq q n ≡ true) (sym same) (is_itself q)),
    )

module _ {Z : Type 0} where
  -- the names of a list of atoms are atoms
  pub name_is_atom : (items names : List (String Z)) (i : ℕ) (name : String Z) (q : List ℕ) → items ≡ names → i < length items
      → name ≡ get_or items i name → q ≡ string_bytes name → AreAtoms (texts names) → IsAtom q
  name_is_atom items names i name q same within is named are =
      let short : i < length names = subst (λ (all : List (String Z)). i < length all) same within in
      let here : i < length (texts names) = rw length-map short in
      let there : q ≡ string_bytes (get_or names i name) =
      named ∙ (ap string_bytes is ∙ ap (λ (all : List (String Z)). string_bytes (get_or all i name)) same) in
      subst IsAtom (get_or-map string_bytes names i name [] short ∙ sym there) (are.each i [] here)

  -- what the names up to the next one hold
  pub listed_next : (items names : List (String Z)) (i : ℕ) (name : String Z) (q : List ℕ) → items ≡ names → i < length items
      → name ≡ get_or items i name → q ≡ string_bytes name → (r : List ℕ)
      → is_listed (texts (take (i + 1) names)) r ≡ (is_listed (texts (take i names)) r || bytes_eq r q)
  listed_next items names i name q same within is named r =
      let short : i < length names = subst (λ (all : List (String Z)). i < length all) same within in
      let there : string_bytes (get_or names i name) ≡ q =
      sym (named ∙ (ap string_bytes is ∙ ap (λ (all : List (String Z)). string_bytes (get_or all i name)) same)) in
      ap (λ (all : List (String Z)). is_listed (texts all) r) (take_more names i name short)
      ∙ (ap (λ (all : List (List ℕ)). is_listed all r) (map-append string_bytes (take i names) (get_or names i name ∷ []))
      ∙ (listed_more (texts (take i names)) (string_bytes (get_or names i name)) r
      ∙ ap (λ (n : List ℕ). is_listed (texts (take i names)) r || bytes_eq r n) there))

  -- one more name, which wasn't among them
  pub are_pushed : (names more : List (String Z)) (name : String Z) (q : List ℕ) → more ≡ names ++ name ∷ [] → string_bytes name ≡ q
      → AreAtoms (texts names) → IsAtom q → is_listed (texts names) q ≡ false → AreAtoms (texts more)
  are_pushed names more name q pushed same are atom new =
      let all : texts more ≡ texts names ++ q ∷ [] =
      ap texts pushed ∙ (map-append string_bytes names (name ∷ []) ∙ ap (λ (n : List ℕ). texts names ++ n ∷ []) same) in
      subst AreAtoms (sym all) (are_more (texts names) q are atom new)

  -- and one atom alone
  pub are_one : (names more : List (String Z)) (name : String Z) (q : List ℕ) → more ≡ names ++ name ∷ [] → names ≡ []
      → string_bytes name ≡ q → IsAtom q → AreAtoms (texts more)
  are_one names more name q pushed empty same atom =
      let first : more ≡ [] ++ name ∷ [] = pushed ∙ ap (λ (all : List (String Z)). all ++ name ∷ []) empty in
      are_pushed [] more name q first same are_none atom refl

  -- names that are no longer than a number
  abbrev pub AreWithin : ℕ → List (String Z) → Type 0
  AreWithin n names = All (λ name. length (string_bytes name) ≤ n) names

  pub within_next : (items names : List (String Z)) (i m n : ℕ) (name : String Z) (q : List ℕ) → items ≡ names → i < length items
      → name ≡ get_or items i name → q ≡ string_bytes name → AreWithin m (take i names) → m ≤ n → length q ≤ n
      → AreWithin n (take (i + 1) names)
  within_next items names i m n name q same within is named all below here =
      let short : i < length names = subst (λ (all : List (String Z)). i < length all) same within in
      let there : q ≡ string_bytes (get_or names i name) =
      named ∙ (ap string_bytes is ∙ ap (λ (all : List (String Z)). string_bytes (get_or all i name)) same) in
      All-more (λ (name : String Z). length (string_bytes name) ≤ n) names i name short
      (All-weaker (λ (name : String Z). length (string_bytes name) ≤ m) (λ (name : String Z). length (string_bytes name) ≤ n)
      (λ name low. omega arith) (take i names) all)
      (subst (λ (bytes : List ℕ). length bytes ≤ n) there here)

  -- names that are no longer than a number don't have a longer one among them
  pub row_is_outside : (n : ℕ) (names : List (String Z)) (row q : List ℕ) → AreWithin n names → row ≡ repeat n (97 ∷ [])
      → q ≡ row ++ 97 ∷ [] → IsAtom q × (is_listed (texts names) q ≡ false)
  row_is_outside n names row q all is more =
      let same : q ≡ repeat n (97 ∷ []) ++ 97 ∷ [] = more ∙ ap (λ (front : List ℕ). front ++ 97 ∷ []) is in (
        subst IsAtom (sym same) (row_is_atom n),
        ap (is_listed (texts names)) same
            ∙ row_is_new n (texts names) (All-map (λ (bytes : List ℕ). length bytes ≤ n) string_bytes names all),
      )

-- what a test against `kept` says
test_keeps : (is kept : Bool) → beq is kept ≡ true → is_kept kept is ≡ true
test_keeps true true same = refl
test_keeps false false same = refl
test_keeps true false same = absurd cc
test_keeps false true same = absurd cc

test_leaves : (is kept : Bool) → beq is kept ≡ false → is_kept kept is ≡ false
test_leaves true true same = absurd cc
test_leaves false false same = absurd cc
test_leaves true false same = refl
test_leaves false true same = refl

-- what is kept of the names up to the next one, where that is kept
pub kept_next : (kept : Bool) (second : List (List ℕ)) (before : Bool) (q name : List ℕ) → is_kept kept (is_listed second name) ≡ true
    → ((before && is_kept kept (is_listed second q)) || bytes_eq q name) ≡ ((before || bytes_eq q name) && is_kept kept (is_listed second q))
kept_next kept second before q name keeps = by_cases before (cases_Bool (bytes_eq q name))
  where
    here : bytes_eq q name ≡ true → is_kept kept (is_listed second q) ≡ true
    here same = subst (λ (n : List ℕ). is_kept kept (is_listed second n) ≡ true) (sym (same_name q name same)) keeps

    or_false : (b : Bool) → (b || false) ≡ b
    or_false true = refl
    or_false false = refl

    by_cases : (p : Bool) → ((bytes_eq q name ≡ true) ⊎ (bytes_eq q name ≡ false))
        → ((p && is_kept kept (is_listed second q)) || bytes_eq q name) ≡ ((p || bytes_eq q name) && is_kept kept (is_listed second q))
    by_cases true (inl same) = simp (same, here same) refl
    by_cases false (inl same) = simp (same, here same) refl
    by_cases true (inr other) = simp other (or_false (is_kept kept (is_listed second q)))
    by_cases false (inr other) = simp other refl

-- and where it isn't
pub left_next : (kept : Bool) (second : List (List ℕ)) (before : Bool) (q name : List ℕ) → is_kept kept (is_listed second name) ≡ false
    → (before && is_kept kept (is_listed second q)) ≡ ((before || bytes_eq q name) && is_kept kept (is_listed second q))
left_next kept second before q name leaves = by_cases before (cases_Bool (bytes_eq q name))
  where
    here : bytes_eq q name ≡ true → is_kept kept (is_listed second q) ≡ false
    here same = subst (λ (n : List ℕ). is_kept kept (is_listed second n) ≡ false) (sym (same_name q name same)) leaves

    by_cases : (p : Bool) → ((bytes_eq q name ≡ true) ⊎ (bytes_eq q name ≡ false))
        → (p && is_kept kept (is_listed second q)) ≡ ((p || bytes_eq q name) && is_kept kept (is_listed second q))
    by_cases true b = refl
    by_cases false (inl same) = simp (same, here same) refl
    by_cases false (inr other) = simp other refl

module _ {Z : Type 0} where
  -- the names up to the next one that are kept, where that is kept
  pub keeps_next : (items names all more : List (String Z)) (second : List (List ℕ)) (kept is : Bool) (i : ℕ) (name : String Z) (q : List ℕ)
      → items ≡ names → i < length items → name ≡ get_or items i name → q ≡ string_bytes name
      → is ≡ is_listed second q → beq is kept ≡ true
      → ((r : List ℕ) → is_listed (texts all) r ≡ (is_listed (texts (take i names)) r && is_kept kept (is_listed second r)))
      → ((r : List ℕ) → is_listed (texts more) r ≡ (is_listed (texts all) r || bytes_eq r q))
      → (r : List ℕ) → is_listed (texts more) r ≡ (is_listed (texts (take (i + 1) names)) r && is_kept kept (is_listed second r))
  keeps_next items names all more second kept is i name q same within item named found test so_far pushed r =
      let before = is_listed (texts (take i names)) r in
      let keeps = ap (is_kept kept) (sym found) ∙ test_keeps is kept test in
      pushed r
      ∙ (ap (λ b. b || bytes_eq r q) (so_far r)
      ∙ (kept_next kept second before r q keeps
      ∙ ap (λ b. b && is_kept kept (is_listed second r)) (sym (listed_next items names i name q same within item named r))))

  -- and where it isn't
  pub leaves_next : (items names all : List (String Z)) (second : List (List ℕ)) (kept is : Bool) (i : ℕ) (name : String Z) (q : List ℕ)
      → items ≡ names → i < length items → name ≡ get_or items i name → q ≡ string_bytes name
      → is ≡ is_listed second q → beq is kept ≡ false
      → ((r : List ℕ) → is_listed (texts all) r ≡ (is_listed (texts (take i names)) r && is_kept kept (is_listed second r)))
      → (r : List ℕ) → is_listed (texts all) r ≡ (is_listed (texts (take (i + 1) names)) r && is_kept kept (is_listed second r))
  leaves_next items names all second kept is i name q same within item named found test so_far r =
      let before = is_listed (texts (take i names)) r in
      let leaves = ap (is_kept kept) (sym found) ∙ test_leaves is kept test in
      so_far r
      ∙ (left_next kept second before r q leaves
      ∙ ap (λ b. b && is_kept kept (is_listed second r)) (sym (listed_next items names i name q same within item named r)))

  -- a set of all but some is not empty
  pub rest_is_some : (names : List (String Z)) (all_but : Bool) → all_but ≡ true
      → let set : Atoms = record { all_but = all_but; names = texts names } in
      (IsTrue (not all_but) → HoldsNoAtom set) × (HoldsNoAtom set → IsTrue (not all_but))
  rest_is_some names true is = (λ no. absurd cc, λ nothing. absurd (rest_holds (texts names) nothing))
  rest_is_some names false is = absurd cc

  -- and a set of some is where none is listed
  pub some_are_none : (names : List (String Z)) (all_but : Bool) → all_but ≡ false → AreAtoms (texts names)
      → let set : Atoms = record { all_but = all_but; names = texts names } in
      (IsTrue (length names == 0) → HoldsNoAtom set) × (HoldsNoAtom set → IsTrue (length names == 0))
  some_are_none names true is are = absurd cc
  some_are_none [] false is are = (λ yes name atom. refl, λ nothing. refl)
  some_are_none (name ∷ names) false is are = (
    λ no. let none : suc (length names) ≡ 0 = eqb-true (suc (length names)) 0 no in absurd (omega arith),
    λ nothing. absurd (first_holds (string_bytes name) (texts names) are nothing),
  )

  -- the first of the listed names is in a set of some
  pub first_is_member : (names : List (String Z)) (all_but : Bool) (set : Atoms) (first q : List ℕ) → all_but ≡ false → AreAtoms (texts names)
      → record { all_but = all_but; names = texts names } ≡ set → Some first ≡ slice_get set.names 0 → q ≡ first
      → IsAtom q × (holds set q ≡ true)
  first_is_member names all_but set first q is are seen found same =
      let listed : slice_get (texts names) 0 ≡ Some q = ap (λ (s : Atoms). slice_get s.names 0) seen ∙ (sym found ∙ ap Some (sym same)) in
      let member = first_is_atom (texts names) q are listed in (
        member.0,
        ap (λ (s : Atoms). holds s q) (sym seen)
            ∙ (ap (λ (b : Bool). holds (record { all_but = b; names = texts names }) q) is ∙ member.1),
      )

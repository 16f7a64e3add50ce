-- How first places change where a name is added.
use Rattle.std.proofs.Common.{◌≡◌, ℕ, zero, suc, ◌+◌, ◌<◌, ◌≤◌, Bool, true, false, cond, ◌||◌, List, [], ◌∷◌, ◌++◌}
use Rattle.std.proofs.Common.{length, take}
use Rattle.std.proofs.Common.{Option, Some, None, refl, sym, ap, ◌∙◌, true≢false, is_some, arith}
use Rattle.std.proofs.Common.{ltb-true, ltb-false, lt-ltb, le-ltb}
use Rattle.std.specs.Prelude.{bytes_eq, nat_lt, if◌then◌else◌}
use Rattle.std.specs.List.{list_any}
use Rattle.std.specs.Option.{option_map, option_or}
use Rattle.std.specs.Cmp.Lexicographic.{nat_list_eq_equiv, bytes_decides}
use Rattle.indexmap.specs.IndexMap.{IndexMap}
use Rattle.cd_syntax.specs.Name.{Name}
use Rattle.cd_resolve.specs.declared.key.Key.{Key}
use Rattle.cd_resolve.specs.FirstPlaces.{first_place, AreFirstPlaces, Enters}

-- a name that is added has its first place at the end, unless it is there
at_end : (names : List Name) (name other : Name) → first_place (names ++ name ∷ []) other
    ≡ option_or (first_place names other) (if bytes_eq name other then Some (length names) else None)
at_end [] name other = refl
at_end (first ∷ names) name other = by (bytes_eq first other) (first_place names other) (bytes_eq name other)
    (at_end names name other)
  where
    more : length names + 1 ≡ length (first ∷ names)
    more = omega arith

    by : (same : Bool) (x : Option ℕ) (last : Bool)
        → first_place (names ++ name ∷ []) other ≡ option_or x (cond last (Some (length names)) None)
        → cond same (Some 0) (option_map (λ place. place + 1) (first_place (names ++ name ∷ []) other))
        ≡ option_or (cond same (Some 0) (option_map (λ place. place + 1) x))
        (cond last (Some (length (first ∷ names))) None)
    by true x last on = refl
    by false (Some place) last on = ap (option_map (λ place. place + 1)) on
    by false None true on = ap (option_map (λ place. place + 1)) on ∙ ap Some more
    by false None false on = ap (option_map (λ place. place + 1)) on

pub extended : {S : Type 0} (names : List Name) (name : Name) (old new : IndexMap Key ℕ S) → AreFirstPlaces names old
    → Enters name (length names) old new → AreFirstPlaces (names ++ name ∷ []) new
extended names name old new are enters key = enters key
    ∙ ap (λ x. option_or x (if bytes_eq name key.name.now then Some (length names) else None)) (are key)
    ∙ sym (at_end names name key.name.now)

-- a name has a first place where it is one of the names
pub has_place : (names : List Name) (name : Name) → is_some (first_place names name) ≡ list_any (bytes_eq name) names
has_place [] name = refl
has_place (other ∷ names) name = by (bytes_eq other name) (first_place names name) (has_place names name)
    ∙ ap (λ same. same || list_any (bytes_eq name) names) (nat_list_eq_equiv.symm other name)
  where
    by : (same : Bool) (x : Option ℕ) → is_some x ≡ list_any (bytes_eq name) names
        → is_some (cond same (Some 0) (option_map (λ place. place + 1) x)) ≡ (same || list_any (bytes_eq name) names)
    by true x on = refl
    by false None on = on
    by false (Some place) on = on

-- a place is one of the first so many
abbrev pub is_before : (count : ℕ) → Option ℕ → Bool
is_before count None = false
is_before count (Some place) = nat_lt place count

-- none is one of the first none, and of the first so many and one more one place more is
none_before : (place : Option ℕ) → is_before zero place ≡ false
none_before None = refl
none_before (Some place) = le-ltb place zero (omega arith)

one_later : (place count : ℕ) → nat_lt (place + 1) (suc count) ≡ nat_lt place count
one_later place count = by (nat_lt place count) (ltb-true place count) (ltb-false place count)
  where
    by : (before : Bool) → (before ≡ true → place < count) → (before ≡ false → count ≤ place)
        → nat_lt (place + 1) (suc count) ≡ before
    by true is not = let less = is refl in lt-ltb (place + 1) (suc count) (omega arith)
    by false is not = let more = not refl in le-ltb (place + 1) (suc count) (omega arith)

-- the first place of a name is one of them where the name is one of the first so many
among_first : (names : List Name) (name : Name) (count : ℕ)
    → is_before count (first_place names name) ≡ list_any (bytes_eq name) (take count names)
among_first names name zero = none_before (first_place names name)
among_first [] name (suc count) = refl
among_first (other ∷ names) name (suc count) =
    by (bytes_eq other name) (first_place names name) (among_first names name count)
    ∙ ap (λ same. same || list_any (bytes_eq name) (take count names)) (nat_list_eq_equiv.symm other name)
  where
    by : (same : Bool) (x : Option ℕ) → is_before count x ≡ list_any (bytes_eq name) (take count names)
        → is_before (suc count) (cond same (Some 0) (option_map (λ place. place + 1) x))
        ≡ (same || list_any (bytes_eq name) (take count names))
    by true x on = lt-ltb 0 (suc count) (omega arith)
    by false None on = on
    by false (Some place) on = one_later place count ∙ on

-- the same of the place that is found in names that are these
pub found_before : (place : Option ℕ) (found_in names : List Name) (name : Name) (count : ℕ)
    → place ≡ first_place found_in name → found_in ≡ names → is_before count place ≡ list_any (bytes_eq name) (take count names)
found_before place found_in names name count found same =
    ap (is_before count) (found ∙ ap (λ names. first_place names name) same) ∙ among_first names name count

-- where a name has a place, nothing changes
pub there_already : (place_of : Name → Option ℕ) (name other : Name) (place : ℕ) → is_some (place_of name) ≡ true
    → place_of other ≡ option_or (place_of other) (if bytes_eq name other then Some place else None)
there_already place_of name other place there = by (place_of other) refl (bytes_eq name other) refl
  where
    by : (x : Option ℕ) → place_of other ≡ x → (same : Bool) → bytes_eq name other ≡ same
        → x ≡ option_or x (cond same (Some place) None)
    by (Some at) is same decided = refl
    by None is false decided = refl
    by None is true decided =
        let equal = (bytes_decides name other).0 decided in
        absurd (true≢false (sym there ∙ ap (λ one. is_some (place_of one)) equal ∙ ap is_some is))

-- where it has none, it gets this one
pub new_place : (place_of : Name → Option ℕ) (name other : Name) (place : ℕ) → is_some (place_of name) ≡ false
    → cond (bytes_eq name other) (Some place) (place_of other)
    ≡ option_or (place_of other) (if bytes_eq name other then Some place else None)
new_place place_of name other place none = by (place_of other) refl (bytes_eq name other) refl
  where
    by : (x : Option ℕ) → place_of other ≡ x → (same : Bool) → bytes_eq name other ≡ same
        → cond same (Some place) x ≡ option_or x (cond same (Some place) None)
    by None is true decided = refl
    by None is false decided = refl
    by (Some at) is false decided = refl
    by (Some at) is true decided =
        let equal = (bytes_decides name other).0 decided in
        absurd (true≢false (sym (ap is_some is) ∙ sym (ap (λ one. is_some (place_of one)) equal) ∙ none))

-- Which names are among others.
use Rattle.std.proofs.Common.{◌≡◌, Bool, true, false, not, ◌||◌, ◌&&◌, List, [], ◌∷◌, ◌++◌, refl, sym, ap, subst}
use Rattle.std.proofs.Common.{◌∙◌, ◌⊎◌, inl, inr, bytes_eq, append_assoc}
use Rattle.std.proofs.lemmas.Bool.{true≢false}
use Rattle.std.proofs.lemmas.Slice.Eq.{bytes_eq-Decides}
use Rattle.std.specs.List.{list_any, list_all}
use Rattle.cd_syntax.specs.Name.{Name}
use Rattle.cd_variables.specs.Occurrences.{Occurrence, has}
use Rattle.cd_variables.specs.VariableFaults.{Differ}
use Rattle.cd_variables.specs.FindingVariables.{has_name, names_among, HaveSameNames, differ}

-- words of logic on tests
pub same_test : (a b : Bool) → (a ≡ true → b ≡ true) → (b ≡ true → a ≡ true) → a ≡ b
same_test true b there back = sym (there refl)
same_test false true there back = back refl
same_test false false there back = refl

pub both_true : (a b : Bool) → a ≡ true → b ≡ true → (a && b) ≡ true
both_true true b first second = second
both_true false b first second = first

pub first_true : (a b : Bool) → (a && b) ≡ true → a ≡ true
first_true true b both = refl
first_true false b both = both

pub second_true : (a b : Bool) → (a && b) ≡ true → b ≡ true
second_true true b both = both
second_true false b both = absurd (true≢false (sym both))

pub later_true : (a b : Bool) → b ≡ true → (a || b) ≡ true
later_true true b later = refl
later_true false b later = later

pub here_true : (a b : Bool) → a ≡ true → (a || b) ≡ true
here_true true b here = refl
here_true false b here = absurd (true≢false (sym here))

or_assoc : (a b c : Bool) → (a || (b || c)) ≡ ((a || b) || c)
or_assoc true b c = refl
or_assoc false b c = refl

or_false : (a : Bool) → (a || false) ≡ a
or_false true = refl
or_false false = refl

-- names compare from both sides alike
pub same_turned : (one other : Name) → bytes_eq one other ≡ bytes_eq other one
same_turned one other = same_test (bytes_eq one other) (bytes_eq other one)
    (λ same. (bytes_eq-Decides other one).1 (sym ((bytes_eq-Decides one other).0 same)))
    (λ same. (bytes_eq-Decides one other).1 (sym ((bytes_eq-Decides other one).0 same)))

pub any_is_has : (names : List Name) (name : Name) → list_any (bytes_eq name) names ≡ has_name names name
any_is_has [] name = refl
any_is_has (other ∷ rest) name = ap (λ b. b || list_any (bytes_eq name) rest) (same_turned name other)
    ∙ ap (λ b. bytes_eq other name || b) (any_is_has rest name)

-- names of variables
pub has_names : (all : List Occurrence) (name : Name) → has_name (names_among all) name ≡ has all name
has_names [] name = refl
has_names (o ∷ rest) name = ap (λ b. bytes_eq o.name name || b) (has_names rest name)

-- names and others
pub has_both : (ones others : List Name) (name : Name)
    → has_name (ones ++ others) name ≡ (has_name ones name || has_name others name)
has_both [] others name = refl
has_both (one ∷ rest) others name = ap (λ b. bytes_eq one name || b) (has_both rest others name)
    ∙ or_assoc (bytes_eq one name) (has_name rest name) (has_name others name)

pub has_itself : (name : Name) (rest : List Name) → has_name (name ∷ rest) name ≡ true
has_itself name rest = here_true _ _ ((bytes_eq-Decides name name).1 refl)

-- one name more
has_more : (names : List Name) (one name : Name)
    → has_name (names ++ one ∷ []) name ≡ (has_name names name || bytes_eq one name)
has_more names one name = has_both names (one ∷ []) name
    ∙ ap (λ b. has_name names name || b) (or_false (bytes_eq one name))

pub same_with_new : (ones others : List Name) (one : Name) → HaveSameNames ones others
    → HaveSameNames (ones ++ one ∷ []) (others ++ one ∷ [])
same_with_new ones others one same name = has_more ones one name
    ∙ ap (λ b. b || bytes_eq one name) (same name) ∙ sym (has_more others one name)

pub same_with_old : (ones others : List Name) (one : Name) → HaveSameNames ones others
    → has_name others one ≡ true → HaveSameNames ones (others ++ one ∷ [])
same_with_old ones others one same old name =
    same name ∙ by_test (bytes_eq one name) refl ∙ sym (has_more others one name) where
      by_test : (b : Bool) → bytes_eq one name ≡ b → has_name others name ≡ (has_name others name || bytes_eq one name)
      by_test true is = subst (λ that. has_name others that ≡ (has_name others that || bytes_eq one that))
          ((bytes_eq-Decides one name).0 is)
          (old ∙ sym (here_true (has_name others one) (bytes_eq one one) old))
      by_test false is = sym (ap (λ b. has_name others name || b) is ∙ or_false (has_name others name))

-- a test of all names
pub test_of_one : (test : Name → Bool) (names : List Name) → list_all test names ≡ true → (name : Name)
    → has_name names name ≡ true → test name ≡ true
test_of_one test [] all name is = absurd (true≢false (sym is))
test_of_one test (one ∷ rest) all name is = by_test (bytes_eq one name) refl is
    (test_of_one test rest (second_true (test one) (list_all test rest) all) name) where
      by_test : (b : Bool) → bytes_eq one name ≡ b → (b || has_name rest name) ≡ true
          → (has_name rest name ≡ true → test name ≡ true) → test name ≡ true
      by_test true same here on = subst (λ that. test that ≡ true) ((bytes_eq-Decides one name).0 same)
          (first_true (test one) (list_all test rest) all)
      by_test false same here on = on here

pub test_of_all : (test : Name → Bool) (names : List Name)
    → ((name : Name) → has_name names name ≡ true → test name ≡ true) → list_all test names ≡ true
test_of_all test [] each = refl
test_of_all test (one ∷ rest) each = both_true (test one) (list_all test rest) (each one (has_itself one rest))
    (test_of_all test rest (λ name is. each name (later_true (bytes_eq one name) (has_name rest name) is)))

pub test_of_same : (test : Name → Bool) (ones others : List Name) → HaveSameNames ones others
    → list_all test ones ≡ list_all test others
test_of_same test ones others same = same_test (list_all test ones) (list_all test others)
    (λ all. test_of_all test others (λ name is. test_of_one test ones all name (same name ∙ is)))
    (λ all. test_of_all test ones (λ name is. test_of_one test others all name (sym (same name) ∙ is)))

-- a name that fails a test
Fails : (Name → Bool) → List Name → Type 0
Fails test names = (name : Name) × (has_name names name ≡ true) × (test name ≡ false)

fails_later : (test : Name → Bool) (one : Name) (rest : List Name) → Fails test rest → Fails test (one ∷ rest)
unfolding Fails
fails_later test one rest f = (f.0, later_true (bytes_eq one f.0) (has_name rest f.0) f.1, f.2)

failing : (test : Name → Bool) (names : List Name) → list_all test names ≡ false → Fails test names
unfolding Fails
failing test [] out = absurd (true≢false out)
failing test (one ∷ rest) out = by_test (test one) refl out (failing test rest) where
  by_test : (b : Bool) → test one ≡ b → (b && list_all test rest) ≡ false
      → (list_all test rest ≡ false → Fails test rest) → Fails test (one ∷ rest)
  by_test true is out on = fails_later test one rest (on out)
  by_test false is out on = (one, has_itself one rest, is)

-- Names differ where a variable is among the ones and not among the others
pub differ_where : (ones others : List Occurrence) → differ (names_among ones) (names_among others) ≡ true
    → Differ ones others
unfolding Fails
differ_where ones others is = by_test (list_all (has_name (names_among others)) (names_among ones)) refl
    (list_all (has_name (names_among ones)) (names_among others)) refl is where
      by_test : (b : Bool) → list_all (has_name (names_among others)) (names_among ones) ≡ b
          → (c : Bool) → list_all (has_name (names_among ones)) (names_among others) ≡ c
          → not (b && c) ≡ true → Differ ones others
      by_test false first c second is =
          let f = failing (has_name (names_among others)) (names_among ones) first in
          (f.0, λ same. true≢false (sym (sym (has_names ones f.0) ∙ f.1) ∙ same ∙ sym (has_names others f.0) ∙ f.2))
      by_test true first false second is =
          let f = failing (has_name (names_among ones)) (names_among others) second in
          (f.0, λ same. true≢false (sym (sym (has_names others f.0) ∙ f.1) ∙ sym same ∙ sym (has_names ones f.0) ∙ f.2))
      by_test true first true second is = absurd (true≢false (sym is))

pub where_differ : (ones others : List Occurrence) → Differ ones others
    → differ (names_among ones) (names_among others) ≡ true
where_differ ones others is = by_test (list_all (has_name (names_among others)) (names_among ones)) refl
    (list_all (has_name (names_among ones)) (names_among others)) refl where
      by_test : (b : Bool) → list_all (has_name (names_among others)) (names_among ones) ≡ b
          → (c : Bool) → list_all (has_name (names_among ones)) (names_among others) ≡ c
          → not (b && c) ≡ true
      by_test false first c second = refl
      by_test true first false second = refl
      by_test true first true second = absurd (is.1 (sym (has_names ones is.0)
          ∙ same_test (has_name (names_among ones) is.0) (has_name (names_among others) is.0)
          (test_of_one (has_name (names_among others)) (names_among ones) first is.0)
          (test_of_one (has_name (names_among ones)) (names_among others) second is.0)
          ∙ has_names others is.0))

-- a name that was seen, or is that of one of these variables
pub seen_or_has : (seen : List Name) (all : List Occurrence) (name : Name)
    → has_name (seen ++ names_among all) name ≡ true → (has_name seen name ≡ true) ⊎ (has all name ≡ true)
seen_or_has seen all name is = by_test (has_name seen name)
    (sym (has_both seen (names_among all) name) ∙ is) where
      by_test : (a : Bool) → (a || has_name (names_among all) name) ≡ true → (a ≡ true) ⊎ (has all name ≡ true)
      by_test true is = inl refl
      by_test false is = inr (sym (has_names all name) ∙ is)

pub seen_before : (seen : List Name) (all : List Occurrence) (name : Name) → has_name seen name ≡ true
    → has_name (seen ++ names_among all) name ≡ true
seen_before seen all name is = has_both seen (names_among all) name ∙ here_true _ _ is

pub seen_in : (seen : List Name) (all : List Occurrence) (name : Name) → has all name ≡ true
    → has_name (seen ++ names_among all) name ≡ true
seen_in seen all name is = has_both seen (names_among all) name
    ∙ later_true (has_name seen name) _ (has_names all name ∙ is)

-- the same of two lists of variables
mapped_both : (ones others : List Occurrence)
    → names_among (ones ++ others) ≡ names_among ones ++ names_among others
mapped_both [] others = refl
mapped_both (one ∷ rest) others = ap (λ names. one.name ∷ names) (mapped_both rest others)

in_turn : (seen : List Name) (ones others : List Occurrence)
    → seen ++ names_among ones ++ names_among others ≡ seen ++ names_among (ones ++ others)
in_turn seen ones others = append_assoc seen (names_among ones) (names_among others)
    ∙ ap (λ names. seen ++ names) (sym (mapped_both ones others))

pub has_of_both : (seen : List Name) (ones others : List Occurrence) (name : Name)
    → has_name (seen ++ names_among ones ++ names_among others) name ≡ true
    → (has_name seen name ≡ true) ⊎ (has (ones ++ others) name ≡ true)
has_of_both seen ones others name is = seen_or_has seen (ones ++ others) name
    (subst (λ names. has_name names name ≡ true) (in_turn seen ones others) is)

pub has_first : (seen : List Name) (ones others : List Occurrence) (name : Name) → has_name seen name ≡ true
    → has_name (seen ++ names_among ones ++ names_among others) name ≡ true
has_first seen ones others name is = subst (λ names. has_name names name ≡ true) (sym (in_turn seen ones others))
    (seen_before seen (ones ++ others) name is)

pub has_second : (seen : List Name) (ones others : List Occurrence) (name : Name) → has (ones ++ others) name ≡ true
    → has_name (seen ++ names_among ones ++ names_among others) name ≡ true
has_second seen ones others name is = subst (λ names. has_name names name ≡ true) (sym (in_turn seen ones others))
    (seen_in seen (ones ++ others) name is)

-- one name more, in an index and in a list of those that are new
pub entered_new : (ones ones_after others others_after : List Name) (one : Name) → ones_after ≡ ones ++ one ∷ []
    → others_after ≡ others ++ one ∷ [] → HaveSameNames ones others → HaveSameNames ones_after others_after
entered_new ones ones_after others others_after one is are same =
    rw (is, are) (same_with_new ones others one same)

pub entered_old : (ones ones_after others others_after : List Name) (one : Name) → ones_after ≡ ones
    → others_after ≡ others ++ one ∷ [] → list_any (bytes_eq one) others ≡ true → HaveSameNames ones others
    → HaveSameNames ones_after others_after
entered_old ones ones_after others others_after one is are old same =
    rw (is, are) (same_with_old ones others one same (sym (any_is_has others one) ∙ old))

-- names differ as their lists without repeats do
pub differ_later : (ones ones_list others others_list : List Name) (first second : Bool)
    → HaveSameNames ones_list ones → HaveSameNames others_list others
    → first ≡ list_all (has_name others) ones_list → second ≡ list_all (has_name ones) others_list → first ≡ true
    → not second ≡ differ ones others
differ_later ones ones_list others others_list first second same others_same is are within =
    ap not (are ∙ test_of_same (has_name ones) others_list others others_same)
    ∙ ap (λ b. not (b && list_all (has_name ones) others))
    (sym within ∙ is ∙ test_of_same (has_name others) ones_list ones same)

pub differ_at_once : (ones ones_list others : List Name) (first : Bool)
    → HaveSameNames ones_list ones → first ≡ list_all (has_name others) ones_list → first ≡ false
    → true ≡ differ ones others
differ_at_once ones ones_list others first same is out =
    ap (λ b. not (b && list_all (has_name ones) others))
    (sym out ∙ is ∙ test_of_same (has_name others) ones_list ones same)

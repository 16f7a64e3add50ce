-- What a test that came out true says of its parts, and how a test is shown from its parts.
use Rattle.std.proofs.Common.{◌≡◌, ◌∙◌, sym, ap, subst, refl, ℕ, List, [], ◌∷◌, Option, Some, None, Bool, true, false, eqb-true, eq-eqb, inl, inr, arith}
use Rattle.std.specs.Prelude.{◌⊎◌, ◌<◌, nat_eq, nat_lt, bit_and, ◌^◌}
use Rattle.std.proofs.lemmas.Nat.{and_assoc, pow_pos}
use Rattle.std.specs.Int.Bits.{and_zero_r}
use Rattle.cd_lr.specs.Grammar.{Symbol, Terminal, Nonterminal}
use Rattle.cd_lr.specs.Tables.{Table, leaf, node, choose, also, either, not, find, seek, all, any, every, given, holds, inside, among, apart, same_symbol, head_is}

-- of two tests that both are true
pub first_also : (a b : Bool) → also a b ≡ true → a ≡ true
first_also true b is = refl
first_also false b is = absurd cc

pub second_also : (a b : Bool) → also a b ≡ true → b ≡ true
second_also true b is = is
second_also false b is = absurd cc

pub to_also : (a b : Bool) → a ≡ true → b ≡ true → also a b ≡ true
to_also true b is so = so
to_also false b is so = absurd cc

-- of two tests of which one is true
pub in_either : (a b : Bool) → either a b ≡ true → (a ≡ true) ⊎ (b ≡ true)
in_either true b is = inl refl
in_either false b is = inr is

pub right_either : (a b : Bool) → b ≡ true → either a b ≡ true
right_either true b is = refl
right_either false b is = is

pub left_either : (a b : Bool) → a ≡ true → either a b ≡ true
left_either true b is = refl
left_either false b is = absurd cc

-- of a test that is false
pub not_true : (a : Bool) → not a ≡ true → a ≡ true → ⊥
not_true true is so = absurd cc
not_true false is so = absurd cc

pub in_not : (a : Bool) → not a ≡ true → a ≡ false
in_not true is = absurd cc
in_not false is = refl

-- where all pass a test and one passes another, one passes both
pub all_any : {A : Type 0} (test want : A → Bool) (xs : List A) → all test xs ≡ true → any want xs ≡ true
    → (x : A) × (test x ≡ true) × (want x ≡ true)
all_any test want [] is found = absurd cc
all_any {A = A} test want (one ∷ rest) is found =
    by (in_either (want one) (any want rest) found) (first_also (test one) (all test rest) is)
    (all_any test want rest (second_also (test one) (all test rest) is))
  where
    by : (want one ≡ true) ⊎ (any want rest ≡ true) → test one ≡ true
        → (any want rest ≡ true → (x : A) × (test x ≡ true) × (want x ≡ true))
        → (x : A) × (test x ≡ true) × (want x ≡ true)
    by (inl here) so later = (one, so, here)
    by (inr there) so later = later there

-- where all pass each of two tests, all pass both
pub all_also : {A : Type 0} (first second : A → Bool) (xs : List A) → all first xs ≡ true → all second xs ≡ true
    → all (λ x. also (first x) (second x)) xs ≡ true
all_also first second [] is so = refl
all_also first second (x ∷ rest) is so =
    to_also _ _ (to_also _ _ (first_also (first x) _ is) (first_also (second x) _ so))
    (all_also first second rest (second_also (first x) (all first rest) is)
    (second_also (second x) (all second rest) so))

-- where one passes a test, one passes a weaker test
pub any_more : {A : Type 0} (small big : A → Bool) (xs : List A) → ((x : A) → small x ≡ true → big x ≡ true)
    → any small xs ≡ true → any big xs ≡ true
any_more small big [] more found = absurd cc
any_more small big (one ∷ rest) more found =
    by (in_either (small one) (any small rest) found) (any_more small big rest more)
  where
    by : (small one ≡ true) ⊎ (any small rest ≡ true) → (any small rest ≡ true → any big rest ≡ true)
        → either (big one) (any big rest) ≡ true
    by (inl here) later = left_either (big one) (any big rest) (more one here)
    by (inr there) later = right_either (big one) (any big rest) (later there)

-- where all entries of a list pass a test, the one that was found does
pub all_seek : {A : Type 0} (test : (ℕ × A) → Bool) (xs : List (ℕ × A)) (n : ℕ) (a : A) → all test xs ≡ true
    → seek xs n ≡ Some a → test (n, a) ≡ true
all_seek test [] n a is found = absurd cc
all_seek test (one ∷ rest) n a is found =
    by (nat_eq one.0 n) refl found (first_also (test one) (all test rest) is)
    (all_seek test rest n a (second_also (test one) (all test rest) is))
  where
    by : (same : Bool) → nat_eq one.0 n ≡ same → choose same (Some one.1) (seek rest n) ≡ Some a → test one ≡ true
        → (seek rest n ≡ Some a → test (n, a) ≡ true) → test (n, a) ≡ true
    by true same found so later =
        let value : one.1 ≡ a = cc in
        subst (λ v. test (n, v) ≡ true) value (subst (λ k. test (k, one.1) ≡ true) (eqb-true _ _ same) so)
    by false same found so later = later found

-- where all rows of a tree pass a test, the one that was found does
pub every_find : {A : Type 0} (test : ℕ → A → Bool) (t : Table A) (n : ℕ) (a : A) → every test t ≡ true
    → find t n ≡ Some a → test n a ≡ true
every_find test leaf n a is found = absurd cc
every_find test (node k b left right) n a is found =
    let here = first_also (test k b) (also (every test left) (every test right)) is in
    let below = second_also (test k b) (also (every test left) (every test right)) is in
    by (nat_eq n k) (nat_lt n k) refl found here
    (every_find test left n a (first_also (every test left) (every test right) below))
    (every_find test right n a (second_also (every test left) (every test right) below))
  where
    by : (same less : Bool) → nat_eq n k ≡ same
        → choose same (Some b) (choose less (find left n) (find right n)) ≡ Some a → test k b ≡ true
        → (find left n ≡ Some a → test n a ≡ true) → (find right n ≡ Some a → test n a ≡ true) → test n a ≡ true
    by true less same found here in_left in_right =
        let value : b ≡ a = cc in
        subst (λ v. test n v ≡ true) value (subst (λ m. test m b ≡ true) (sym (eqb-true _ _ same)) here)
    by false true same found here in_left in_right = in_left found
    by false false same found here in_left in_right = in_right found

-- a fact of what was found, or else of what stands for it
pub given_find : {A : Type 0} (fact : A → Type 0) (t : Table A) (n : ℕ) (other : A) → fact other
    → ((a : A) → find t n ≡ Some a → fact a) → fact (given other (find t n))
given_find {A = A} fact t n other is each = by (find t n) refl
  where
    by : (found : Option A) → find t n ≡ found → fact (given other found)
    by None same = is
    by (Some a) same = each a same

-- where all rows of a tree pass a test, and so does what stands for others, the row of a number does
pub every_given : {A : Type 0} (test : ℕ → A → Bool) (t : Table A) (n : ℕ) (other : A) → every test t ≡ true
    → test n other ≡ true → test n (given other (find t n)) ≡ true
every_given test t n other all is =
    given_find (λ a. test n a ≡ true) t n other is (λ a found. every_find test t n a all found)

-- of something that was found and passes a test
pub in_holds : {A : Type 0} (test : A → Bool) (found : Option A) → holds test found ≡ true
    → (a : A) × (found ≡ Some a) × (test a ≡ true)
in_holds test None is = absurd cc
in_holds test (Some a) is = (a, refl, is)

pub to_holds : {A : Type 0} (test : A → Bool) (found : Option A) (a : A) → found ≡ Some a → test a ≡ true
    → holds test found ≡ true
to_holds test found a is so = subst (λ f. holds test f ≡ true) (sym is) so

-- a subset of a subset is a subset
pub inside_more : (bit mask big : ℕ) → inside bit mask ≡ true → inside mask big ≡ true → inside bit big ≡ true
inside_more bit mask big small is =
    let one : bit_and bit mask ≡ bit = eqb-true _ _ small in
    let whole : bit_and mask big ≡ mask = eqb-true _ _ is in
    eq-eqb _ _ (sym (ap (λ n. bit_and n big) one) ∙ and_assoc big bit mask ∙ ap (bit_and bit) whole ∙ one)

-- no terminal is in two disjoint sets
pub not_apart : (k mask other : ℕ) → among k mask ≡ true → apart mask other ≡ true → among k other ≡ true → ⊥
not_apart k mask other is away so =
    let one : bit_and (2 ^ k) mask ≡ 2 ^ k = eqb-true _ _ is in
    let none : bit_and mask other ≡ 0 = eqb-true _ _ away in
    let two : bit_and (2 ^ k) other ≡ 2 ^ k = eqb-true _ _ so in
    let zeros : bit_and (2 ^ k) other ≡ 0 =
    sym (ap (λ n. bit_and n other) one) ∙ and_assoc other (2 ^ k) mask ∙ ap (bit_and (2 ^ k)) none
    ∙ and_zero_r (2 ^ k) in
    let big : 0 < 2 ^ k = pow_pos k in
    let gone : 2 ^ k ≡ 0 = sym two ∙ zeros in
    omega (arith, big, gone)

-- symbols that pass the test are the same
pub same_symbols : (x y : Symbol) → same_symbol x y ≡ true → x ≡ y
same_symbols (Terminal w k) (Terminal v l) is =
    let one : w ≡ v = eqb-true _ _ (first_also (nat_eq w v) (nat_eq k l) is) in
    let two : k ≡ l = eqb-true _ _ (second_also (nat_eq w v) (nat_eq k l) is) in
    cc
same_symbols (Nonterminal n) (Nonterminal o) is = ap Nonterminal (eqb-true _ _ is)
same_symbols (Terminal w k) (Nonterminal o) is = absurd cc
same_symbols (Nonterminal n) (Terminal v l) is = absurd cc

-- symbols that pass the test begin with this one
pub has_head : (x : Symbol) (xs : List Symbol) → head_is x xs ≡ true → (rest : List Symbol) × (xs ≡ x ∷ rest)
has_head x [] is = absurd cc
has_head x (y ∷ rest) is = (rest, ap (λ z. z ∷ rest) (sym (same_symbols x y is)))

-- Places of the dot in a right side.
use Rattle.std.proofs.Common.{◌≡◌, ◌∙◌, sym, ap, refl, ℕ, zero, suc, ◌+◌, List, [], ◌∷◌, Bool, true, drop, length, arith}
use Rattle.cd_lr.specs.Grammar.{Symbol}
use Rattle.cd_lr.specs.Valid.{both}
use Rattle.cd_lr.specs.Tables.{all}
use Rattle.cd_lr.proofs.Bools.{second_also}

abbrev tail : {A : Type 0} → List A → List A
tail [] = []
tail (x ∷ rest) = rest

drop_more : {A : Type 0} (n : ℕ) (xs : List A) (x : A) (after : List A) → drop n xs ≡ x ∷ after
    → drop (suc n) xs ≡ after
drop_more zero [] x after is = absurd cc
drop_more zero (y ∷ rest) x after is = ap tail is
drop_more (suc n) [] x after is = absurd cc
drop_more (suc n) (y ∷ rest) x after is = drop_more n rest x after is

-- the symbols after the dot, by how many stand before it
pub after_place : (before after : List Symbol) → drop (length before) (both before after) ≡ after
after_place [] after = refl
after_place (x ∷ before) after =
    drop_more (length before) (both before (x ∷ after)) x after (after_place before (x ∷ after))

pub split_from : (done : List Symbol) (d : ℕ) (xs : List Symbol) (x : Symbol) (after : List Symbol)
    → drop d xs ≡ x ∷ after
    → (before : List Symbol) × (length before ≡ d + length done) × (both done xs ≡ both before (x ∷ after))
split_from done zero xs x after is = (done, grind (arith), ap (both done) is)
split_from done (suc d) [] x after is = absurd cc
split_from done (suc d) (y ∷ rest) x after is =
    let more = split_from (y ∷ done) d rest x after is in
    (more.0, more.1 ∙ grind (arith), more.2)

-- the symbols before a dot that stands before a symbol
pub split : (d : ℕ) (xs : List Symbol) (x : Symbol) (after : List Symbol) → drop d xs ≡ x ∷ after
    → (before : List Symbol) × (length before ≡ d) × (xs ≡ both before (x ∷ after))
split d xs x after is = let found = split_from [] d xs x after is in (found.0, found.1 ∙ grind (arith), found.2)

turned_from : (done xs : List Symbol)
    → (before : List Symbol) × (length before ≡ length xs + length done) × (both done xs ≡ both before [])
turned_from done [] = (done, grind (arith), refl)
turned_from done (x ∷ rest) =
    let more = turned_from (x ∷ done) rest in (more.0, more.1 ∙ grind (arith), more.2)

-- the symbols before a dot that stands at the end
pub turned : (xs : List Symbol) → (before : List Symbol) × (length xs ≡ length before) × (xs ≡ both before [])
turned xs = let found = turned_from [] xs in (found.0, sym (found.1 ∙ grind (arith)), found.2)

-- what all symbols pass, those after the dot do
pub all_after : (test : Symbol → Bool) (before after : List Symbol) → all test (both before after) ≡ true
    → all test after ≡ true
all_after test [] after is = is
all_after test (x ∷ before) after is = second_also (test x) (all test after) (all_after test before (x ∷ after) is)

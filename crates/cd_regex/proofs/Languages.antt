-- Laws of languages, for both answers at once.
use Rattle.std.proofs.Common.{◌≡◌, ℕ, zero, suc, ◌≤◌, Bool, false, List, [], ◌∷◌, length, ◌↔◌, arith}
use Rattle.cd_model.specs.Language.{Language, both, some, none, nothing, either, followed, turns, star, plus}
use Rattle.cd_regex.proofs.Ways.{same, back, through, both_same, some_same, some_swapped, both_grouped, some_grouped, some_exchanged}
use Rattle.cd_regex.proofs.Ways.{both_over_some, some_over_both, some_or_never, never_or_some, both_never, both_and_never}
use Rattle.cd_regex.proofs.Ways.{both_always, both_and_always, some_absorbed}

-- the lists that are in the language with this thing before them
abbrev pub after : {X : Type 1} → X → Language X → Language X
after one language = λ things. language (one ∷ things)

-- lists for which it is always so, and where both are
abbrev pub where_both : {X : Type 1} → (Bool → Type 0) → Language X → Language X
where_both fact language things answer = both answer (fact answer) (language things answer)

-- where the parts are the same, so is the whole, and the second part is asked of no longer list
pub followed_same : {X : Type 1} (answer : Bool) (first first' second second' : Language X) (things : List X)
    → ((taken : List X) → first taken answer ↔ first' taken answer)
    → ((left : List X) → length left ≤ length things → second left answer ↔ second' left answer)
    → followed first second things answer ↔ followed first' second' things answer
followed_same answer first first' second second' [] firsts seconds = both_same answer (firsts []) (seconds [] (omega arith))
followed_same answer first first' second second' (one ∷ rest) firsts seconds = some_same answer
    (both_same answer (firsts []) (seconds (one ∷ rest) (omega arith)))
    (followed_same answer (after one first) (after one first') second second' rest
    (λ taken. firsts (one ∷ taken)) (λ left fewer. seconds left (omega arith)))

pub first_same : {X : Type 1} (answer : Bool) (first first' second : Language X) (things : List X)
    → ((taken : List X) → first taken answer ↔ first' taken answer)
    → followed first second things answer ↔ followed first' second things answer
first_same answer first first' second things firsts = followed_same answer first first' second second things firsts (λ left fewer. same)

pub second_same : {X : Type 1} (answer : Bool) (first second second' : Language X) (things : List X)
    → ((left : List X) → length left ≤ length things → second left answer ↔ second' left answer)
    → followed first second things answer ↔ followed first second' things answer
second_same answer first second second' things = followed_same answer first first second second' things (λ taken. same)

-- no list before another
pub none_first : {X : Type 1} (answer : Bool) (second : Language X) (things : List X)
    → followed none second things answer ↔ (answer ≡ false)
none_first answer second [] = both_never answer (second [] answer)
none_first answer second (one ∷ rest) = through
    (some_same answer (both_never answer (second (one ∷ rest) answer)) (none_first answer second rest))
    (some_or_never answer (answer ≡ false))

-- the empty list after another
pub nothing_second : {X : Type 1} (answer : Bool) (first : Language X) (things : List X)
    → followed first nothing things answer ↔ first things answer
nothing_second answer first [] = both_and_always answer (first [] answer)
nothing_second answer first (one ∷ rest) = through
    (some_same answer (both_and_never answer (first [] answer)) (nothing_second answer (after one first) rest))
    (never_or_some answer (first (one ∷ rest) answer))

-- one of two before another, and what holds of all lists
pub either_first : {X : Type 1} (answer : Bool) (one_of or_of second : Language X) (things : List X)
    → followed (either one_of or_of) second things answer
    ↔ some answer (followed one_of second things answer) (followed or_of second things answer)
either_first answer one_of or_of second [] = some_over_both answer (one_of [] answer) (or_of [] answer) (second [] answer)
either_first answer one_of or_of second (one ∷ rest) = through
    (some_same answer
    (some_over_both answer (one_of [] answer) (or_of [] answer) (second (one ∷ rest) answer))
    (either_first answer (after one one_of) (after one or_of) second rest))
    (some_exchanged answer
    (both answer (one_of [] answer) (second (one ∷ rest) answer)) (both answer (or_of [] answer) (second (one ∷ rest) answer))
    (followed (after one one_of) second rest answer) (followed (after one or_of) second rest answer))

pub fact_first : {X : Type 1} (answer : Bool) (fact : Bool → Type 0) (first second : Language X) (things : List X)
    → followed (where_both fact first) second things answer ↔ both answer (fact answer) (followed first second things answer)
fact_first answer fact first second [] = back (both_grouped answer (fact answer) (first [] answer) (second [] answer))
fact_first answer fact first second (one ∷ rest) = through
    (some_same answer
    (back (both_grouped answer (fact answer) (first [] answer) (second (one ∷ rest) answer)))
    (fact_first answer fact (after one first) second rest))
    (back (both_over_some answer (fact answer)
    (both answer (first [] answer) (second (one ∷ rest) answer)) (followed (after one first) second rest answer)))

-- the grouping does not count
pub followed_grouped : {X : Type 1} (answer : Bool) (first second third : Language X) (things : List X)
    → followed first (followed second third) things answer ↔ followed (followed first second) third things answer
followed_grouped answer first second third [] = both_grouped answer (first [] answer) (second [] answer) (third [] answer)
followed_grouped answer first second third (one ∷ rest) =
    let begins : Bool → Type 0 = first [] in
    let late : Type 0 = both answer (second [] answer) (third (one ∷ rest) answer) in
    let middle : Type 0 = followed (after one second) third rest answer in
    let early : Type 0 = followed (after one first) (followed second third) rest answer in
    through (some_same answer (both_over_some answer (begins answer) late middle) same)
    (through (back (some_grouped answer (both answer (begins answer) late) (both answer (begins answer) middle) early))
    (some_same answer
    (both_grouped answer (begins answer) (second [] answer) (third (one ∷ rest) answer))
    (through
    (some_same answer
    (back (fact_first answer begins (after one second) third rest))
    (followed_grouped answer (after one first) second third rest))
    (back (either_first answer (where_both begins (after one second)) (followed (after one first) second) third rest)))))

-- as many turns as there are things are enough
pub turns_same : {X : Type 1} (answer : Bool) (one : Language X) (count more : ℕ) (things : List X)
    → length things ≤ count → length things ≤ more → turns count one things answer ↔ turns more one things answer
turns_same answer one count more [] enough enough' = same
turns_same answer one zero more (thing ∷ things) enough enough' = absurd (omega arith)
turns_same answer one (suc count) zero (thing ∷ things) enough enough' = absurd (omega arith)
turns_same answer one (suc count) (suc more) (thing ∷ things) enough enough' =
    second_same answer (after thing one) (turns count one) (turns more one) things
    (λ left fewer. turns_same answer one count more left (omega arith) (omega arith))

-- a first turn, and then the others
pub star_begins : {X : Type 1} (answer : Bool) (one : Language X) (thing : X) (things : List X)
    → star one (thing ∷ things) answer ↔ followed (after thing one) (star one) things answer
star_begins answer one thing things =
    second_same answer (after thing one) (turns (length things) one) (star one) things
    (λ left fewer. turns_same answer one (length things) (length left) left fewer (omega arith))

-- What is the last part where nothing is left, and else the last part or a turn and then itself again, is the turns and then the
-- last part
pub star_is_least : {X : Type 1} (answer : Bool) (one last all : Language X)
    → (all [] answer ↔ last [] answer)
    → ((thing : X) (things : List X)
    → all (thing ∷ things) answer ↔ some answer (followed (after thing one) all things answer) (last (thing ∷ things) answer))
    → (count : ℕ) (things : List X) → length things ≤ count → all things answer ↔ followed (star one) last things answer
star_is_least answer one last all at_end again count [] enough = through at_end (back (both_always answer (last [] answer)))
star_is_least answer one last all at_end again zero (thing ∷ things) enough = absurd (omega arith)
star_is_least answer one last all at_end again (suc count) (thing ∷ things) enough =
    let turn : Type 0 = followed (after thing one) all things answer in
    let goes_on =
    through (second_same answer (after thing one) all (followed (star one) last) things
    (λ left fewer. star_is_least answer one last all at_end again count left (omega arith)))
    (through (followed_grouped answer (after thing one) (star one) last things)
    (back (first_same answer (after thing (star one)) (followed (after thing one) (star one)) last things
    (λ taken. star_begins answer one thing taken)))) in
    through (again thing things)
    (through (some_swapped answer turn (last (thing ∷ things) answer))
    (some_same answer (back (both_always answer (last (thing ∷ things) answer))) goes_on))

pub star_same : {X : Type 1} (answer : Bool) (one last all : Language X)
    → (all [] answer ↔ last [] answer)
    → ((thing : X) (things : List X)
    → all (thing ∷ things) answer ↔ some answer (followed (after thing one) all things answer) (last (thing ∷ things) answer))
    → (things : List X) → all things answer ↔ followed (star one) last things answer
star_same answer one last all at_end again things =
    star_is_least answer one last all at_end again (length things) things (omega arith)

-- one turn or more are a first turn, and then the others
pub plus_begins : {X : Type 1} (answer : Bool) (one : Language X) (thing : X) (things : List X)
    → plus one (thing ∷ things) answer ↔ followed (after thing one) (star one) things answer
plus_begins answer one thing things = through
    (some_same answer (both_same answer same (star_begins answer one thing things)) same)
    (some_absorbed answer (one [] answer) (followed (after thing one) (star one) things answer))

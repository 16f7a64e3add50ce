-- The items of sequences, and those along other things.
use Rattle.std.proofs.Common.{◌≡◌, ◌∙◌, refl, sym, ap, inl, inr, true, false, List, [], ◌∷◌, ◌++◌, Option, Some, None, option_map, bytes_eq, append-nil}
use Rattle.std.specs.Prelude.{codes}
use Rattle.std.proofs.lemmas.Bool.{cases_Bool}
use Rattle.std.proofs.lemmas.Slice.Eq.{bytes_eq-Decides}
use Rattle.cd_model.specs.Thing.{Thing, Atom, Pair}
use Rattle.cd_matching.specs.Sequences.{items, sequence_of}
use Rattle.cd_meaning.specs.Sequences.{followed_by}
use Rattle.cd_evaluation.specs.Lists.{before}
use Rattle.cd_operations.specs.Along.{items_along, turned}
use Rattle.cd_operations.specs.Pairs.{is_empty}
use Rattle.cd_operations.specs.Inner.Joins.{IsAnswer}

pub at_end : (v : Thing) → items_along v ≡ [] → IsAnswer v (is_empty v)
at_end (Pair first rest) none = absurd cc
at_end (Atom name) none = refl
at_end _ none = refl

-- a sequence is that of its items
pub some_is : (one other : List Thing) → Some one ≡ Some other → one ≡ other
some_is one other same = cc

pub sequence_of_items : (v : Thing) (all : List Thing) → items v ≡ Some all → v ≡ sequence_of all
sequence_of_items (Atom name) all found = elim (cases_Bool (bytes_eq name (codes "nil"))) [
  | inl same ↦ ap Atom ((bytes_eq-Decides name (codes "nil")).0 same)
      ∙ ap sequence_of (some_is [] all (sym (nil_test same) ∙ found))
  | inr other ↦ absurd (no_items (sym (other_test other) ∙ found))
]
  where
    nil_test : bytes_eq name (codes "nil") ≡ true → items (Atom name) ≡ Some []
    nil_test same = rw same refl

    other_test : bytes_eq name (codes "nil") ≡ false → items (Atom name) ≡ None
    other_test other = rw other refl

    no_items : None ≡ Some all → ⊥
    no_items same = cc
sequence_of_items (Pair first second) all found = by_rest (items second) (sequence_of_items second) found
  where
    by_rest : (rest : Option (List Thing)) → ((all : List Thing) → rest ≡ Some all → second ≡ sequence_of all)
        → option_map (λ rest. first ∷ rest) rest ≡ Some all → Pair first second ≡ sequence_of all
    by_rest None on found = absurd cc
    by_rest (Some rest) on found =
        ap (Pair first) (on rest refl) ∙ ap sequence_of (some_is (first ∷ rest) all found)
sequence_of_items _ all found = absurd cc

pub items_of_sequence : (all : List Thing) → items (sequence_of all) ≡ Some all
items_of_sequence [] = refl
items_of_sequence (v ∷ rest) = ap (option_map (λ rest. v ∷ rest)) (items_of_sequence rest)

pub along_sequence : (all : List Thing) → items_along (sequence_of all) ≡ all
along_sequence [] = refl
along_sequence (v ∷ rest) = ap (λ all. v ∷ all) (along_sequence rest)

pub followed_sequence : (ds others : List Thing) → followed_by ds (sequence_of others) ≡ sequence_of (ds ++ others)
followed_sequence [] others = refl
followed_sequence (d ∷ ds) others = ap (Pair d) (followed_sequence ds others)

-- what is put before a thing, and then the items along it
pub turned_items : (done : List Thing) (onto : Thing) → items_along (turned done onto) ≡ before done (items_along onto)
turned_items [] onto = refl
turned_items (v ∷ done) onto = turned_items done (Pair v onto)

pub turned_sequence : (done others : List Thing) → turned done (sequence_of others) ≡ sequence_of (before done others)
turned_sequence [] others = refl
turned_sequence (v ∷ done) others = turned_sequence done (v ∷ others)

-- twice turned
turned_twice : (done others last : List Thing) → before (before done others) last ≡ before others (done ++ last)
turned_twice [] others last = refl
turned_twice (v ∷ done) others last = turned_twice done (v ∷ others) last

pub before_twice : (all : List Thing) → before (before all []) [] ≡ all
before_twice all = turned_twice all [] [] ∙ append-nil all

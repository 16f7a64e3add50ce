-- Sequences of things of a sort that is known by parts, their items, and texts: all of the sort.
use Rattle.std.proofs.Common.{◌≡◌, ℕ, Bool, true, false, List, [], ◌∷◌, map, Option, Some, None, option_map, subst, codes, bytes_eq, if◌then◌else◌}
use Rattle.std.specs.Char.{IsScalar}
use Rattle.cd_model.specs.AllOf.{AllOf}
use Rattle.cd_model.specs.Thing.{Thing, Fields, Character, Atom, Pair}
use Rattle.cd_matching.specs.Sequences.{nil, sequence_of, items, text_of}
use Rattle.cd_matching.proofs.NilIsElement.{nil_is_element}
use Rattle.cd_model.proofs.Ones.{each_of_lists}
use Rattle.cd_evaluation.specs.Lists.{before, both_items, all_items, listed}
use Rattle.cd_safety.specs.ByParts.{IsByParts, OutcomeOf}

pub some_is : {X : Type 0} (one other : X) → Some one ≡ Some other → one ≡ other
some_is one other same = cc

module _ (Of : Thing → Type 0) (OfFields : Fields → Type 0) (by_parts : IsByParts Of OfFields) where
  pub nil_of : Of nil
  nil_of = by_parts.atom (codes "nil") nil_is_element

  pub sequence_good : (all : List Thing) → AllOf Of all → Of (sequence_of all)
  sequence_good [] are = nil_of
  sequence_good (v ∷ rest) are = (by_parts.pair v (sequence_of rest)).1 (are.0, sequence_good rest are.1)

  pub text_good : (text : List ℕ) → AllOf IsScalar text → Of (text_of text)
  text_good [] are = nil_of
  text_good (c ∷ text) are = (by_parts.pair (Character c) (text_of text)).1 (by_parts.character c are.0, text_good text are.1)

  pub characters_good : (characters : List ℕ) → AllOf IsScalar characters → AllOf Of (map Character characters)
  characters_good [] are = tt
  characters_good (c ∷ rest) are = (by_parts.character c are.0, characters_good rest are.1)

  pub before_good : (done others : List Thing) → AllOf Of done → AllOf Of others → AllOf Of (before done others)
  before_good [] others are those = those
  before_good (v ∷ done) others are those = before_good done (v ∷ others) are.1 (are.0, those)

  -- items, if there are some
  abbrev pub ItemsOf : Option (List Thing) → Type 0
  ItemsOf None = Unit {0}
  ItemsOf (Some all) = AllOf Of all

  of_some : (found : Option (List Thing)) (all : List Thing) → found ≡ Some all → ItemsOf found → AllOf Of all
  of_some None all same are = absurd cc
  of_some (Some own) all same are = subst (AllOf Of) (some_is own all same) are

  pub items_of : (v : Thing) → Of v → ItemsOf (items v)
  items_of (Pair first second) is =
      let parts = (by_parts.pair first second).0 is in
      with_first (items second) (items_of second parts.1) parts.0
    where
      with_first : (found : Option (List Thing)) → ItemsOf found → Of first → ItemsOf (option_map (λ rest. first ∷ rest) found)
      with_first None are own = tt
      with_first (Some rest) are own = (own, are)
  items_of (Atom name) is = by_test (bytes_eq name (codes "nil"))
    where
      by_test : (same : Bool) → ItemsOf (if same then Some [] else None)
      by_test true = tt
      by_test false = tt
  items_of _ is = tt

  pub items_good : (v : Thing) (all : List Thing) → items v ≡ Some all → Of v → AllOf Of all
  items_good v all found is = of_some (items v) all found (items_of v is)

  both_of : (one other : Option (List Thing)) → ItemsOf one → ItemsOf other → ItemsOf (both_items one other)
  both_of None other are those = tt
  both_of (Some all) None are those = tt
  both_of (Some all) (Some others) are those = each_of_lists Of all others are those

  all_items_of : (all : List Thing) → AllOf Of all → ItemsOf (all_items all)
  all_items_of [] are = tt
  all_items_of (v ∷ rest) are = both_of (items v) (all_items rest) (items_of v are.0) (all_items_of rest are.1)

  listed_of : (found : Option (List Thing)) → ItemsOf found → OutcomeOf Of (listed found)
  listed_of None are = tt
  listed_of (Some all) are = sequence_good all are

  pub joined_good : (v w : Thing) → Of v → Of w → OutcomeOf Of (listed (both_items (items v) (items w)))
  joined_good v w is other =
      listed_of (both_items (items v) (items w)) (both_of (items v) (items w) (items_of v is) (items_of w other))

  pub all_joined_good : (all : List Thing) → AllOf Of all → OutcomeOf Of (listed (all_items all))
  all_joined_good all are = listed_of (all_items all) (all_items_of all are)

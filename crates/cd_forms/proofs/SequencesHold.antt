-- The sequences of items, from the last one on: what an item does before the sequences of those
-- that follow it.
use Rattle.std.proofs.Common.{◌≡◌, ◌++◌, ℕ, suc, List, [], ◌∷◌, map, length, refl}
use Rattle.std.proofs.Common.{sym, ap, subst, ◌∙◌}
use Rattle.cd_model.specs.Thing.{Thing, Character, Pair, IsElement}
use Rattle.cd_matching.specs.Sequences.{nil, sequence_of}
use Rattle.cd_meaning.specs.Sets.{Set, ◌⊆◌}
use Rattle.cd_meaning.specs.Sequences.{followed_by, IsJoinOf}
use Rattle.cd_program.specs.Expr.{Expr, Items, NoItem, AnItem, One, Splice, Run}
use Rattle.cd_typing.specs.Typ.{Typ, In, AreIn}
use Rattle.cd_typing.specs.Results.{Make, IsSequenceOf}
use Rattle.cd_forms.specs.Inner.Chains.{AreBefore, IsTextBefore}
use Rattle.cd_forms.specs.Inner.Putting.{wanted}
use Rattle.cd_forms.proofs.Followed.{parts_are_elements}

-- items in two lists
in_turn : (ds es : List Thing) → sequence_of (ds ++ es) ≡ followed_by ds (sequence_of es)
in_turn [] es = refl
in_turn (d ∷ ds) es = ap (Pair d) (in_turn ds es)

-- no item
pub end_is_nil : (e : Thing) → IsSequenceOf NoItem [] e → e ≡ nil
end_is_nil e ([], made, are, make, same) = same ∙ ap sequence_of make
end_is_nil e (d ∷ ds, made, are, make, same) = absurd are

pub nil_is_end : (e : Thing) → e ≡ nil → IsSequenceOf NoItem [] e
nil_is_end e same = ([], [], tt, refl, same)

module _ (rest : Items) (types : List Typ) where
  abbrev Later : Set
  Later = IsSequenceOf rest types

  -- one item, before the others
  pub one_before : (x : Expr) (t : Typ) (e : Thing) → IsElement e
      → IsSequenceOf (AnItem (One x) rest) (t ∷ types) e → AreBefore (t ∷ []) Later e
  one_before x t e element ([], made, are, make, same) = absurd are
  one_before x t e element (d ∷ ds, made, are, (others, make, is), same) =
      let whole : e ≡ followed_by (d ∷ []) (sequence_of others) = same ∙ ap sequence_of is in (
        d ∷ [],
        sequence_of others,
        (are.0, are.1, tt),
        (subst IsElement whole element).1,
        (ds, others, are.2, make, refl),
        whole,
      )

  pub before_one : (x : Expr) (t : Typ) (e : Thing) → AreBefore (t ∷ []) Later e
      → IsSequenceOf (AnItem (One x) rest) (t ∷ types) e
  before_one x t e ([], last, are, element, later, same) = absurd are
  before_one x t e (d ∷ [], last, are, element, (ds, others, in_types, make, is), same) = (
    d ∷ ds,
    d ∷ others,
    (are.0, are.1, in_types),
    (others, make, refl),
    same ∙ ap (Pair d) is,
  )
  before_one x t e (d ∷ more ∷ ds, last, are, element, later, same) = absurd are.2

  -- the items of a sequence, before the others
  pub splice_before : (x : Expr) (t : Typ) (e : Thing) → IsElement e
      → IsSequenceOf (AnItem (Splice x) rest) (t ∷ types) e → IsJoinOf (In t) Later e
  splice_before x t e element ([], made, are, make, same) = absurd are
  splice_before x t e element (d ∷ ds, made, are, (own, others, has, make, is), same) =
      let whole = same ∙ ap sequence_of is ∙ in_turn own others in (
        d,
        sequence_of others,
        own,
        are.0,
        (parts_are_elements own (sequence_of others) (subst IsElement whole element)).1,
        are.1,
        (ds, others, are.2, make, refl),
        has,
        whole,
      )

  pub before_splice : (x : Expr) (t : Typ) (e : Thing) → IsJoinOf (In t) Later e
      → IsSequenceOf (AnItem (Splice x) rest) (t ∷ types) e
  before_splice x t e (d, last, own, element, last_element, there, later, has, same) =
      let others = later.1 in (
        d ∷ later.0,
        own ++ others,
        (element, there, later.2),
        (own, others, has, later.3, refl),
        same ∙ ap (followed_by own) later.4 ∙ sym (in_turn own others),
      )

  -- characters, before the others
  pub run_before : (text : List ℕ) (e : Thing)
      → IsSequenceOf (AnItem (Run text) rest) types e → IsTextBefore text Later e
  run_before text e (ds, made, are, make, same) = by_things ds are make
    where
      by_things : (ds : List Thing) → AreIn types ds → Make (AnItem (Run text) rest) ds made
          → IsTextBefore text Later e
      by_things [] are (others, make, is) =
          let whole = same ∙ ap sequence_of is ∙ in_turn (map Character text) others in
          (sequence_of others, ([], others, are, make, refl), whole)
      by_things (d ∷ ds) are (others, make, is) =
          let whole = same ∙ ap sequence_of is ∙ in_turn (map Character text) others in
          (sequence_of others, (d ∷ ds, others, are, make, refl), whole)

  pub before_run : (text : List ℕ) (e : Thing) → IsTextBefore text Later e
      → IsSequenceOf (AnItem (Run text) rest) types e
  before_run text e (last, (ds, others, are, make, is), same) =
      let whole = same ∙ ap (followed_by (map Character text)) is
      ∙ sym (in_turn (map Character text) others) in by_things ds are make whole
    where
      by_things : (ds : List Thing) → AreIn types ds → Make rest ds others
          → e ≡ sequence_of (map Character text ++ others)
          → IsSequenceOf (AnItem (Run text) rest) types e
      by_things [] are make whole =
          ([], map Character text ++ others, are, (others, make, refl), whole)
      by_things (d ∷ ds) are make whole =
          (d ∷ ds, map Character text ++ others, are, (others, make, refl), whole)

-- wider sets
pub before_more : (types : List Typ) (one other : Set) → one ⊆ other
    → AreBefore types one ⊆ AreBefore types other
before_more types one other within e element (ds, last, are, last_element, there, same) =
    (ds, last, are, last_element, within last last_element there, same)

pub text_before_more : (text : List ℕ) (one other : Set) → one ⊆ other
    → IsTextBefore text one ⊆ IsTextBefore text other
text_before_more text one other within e element (last, there, same) = (
  last,
  within last (parts_are_elements (map Character text) last
      (subst IsElement same element)).1 there,
  same,
)

pub join_more : (first second one other : Set) → first ⊆ second → one ⊆ other
    → IsJoinOf first one ⊆ IsJoinOf second other
join_more first second one other firsts within e element
    (d, last, own, d_element, last_element, there, later, has, same) = (
      d,
      last,
      own,
      d_element,
      last_element,
      firsts d d_element there,
      within last last_element later,
      has,
      same,
    )

make_counts : (all : Items) (ds made : List Thing) → Make all ds made → length ds ≡ wanted all
make_counts NoItem [] made make = refl
make_counts NoItem (d ∷ ds) made make = absurd make
make_counts (AnItem (One x) rest) [] made make = absurd make
make_counts (AnItem (One x) rest) (d ∷ ds) made make =
    ap suc (make_counts rest ds make.0 make.1)
make_counts (AnItem (Splice x) rest) [] made make = absurd make
make_counts (AnItem (Splice x) rest) (d ∷ ds) made make =
    ap suc (make_counts rest ds make.1 make.3)
make_counts (AnItem (Run text) rest) [] made make = make_counts rest [] make.0 make.1
make_counts (AnItem (Run text) rest) (d ∷ ds) made make =
    make_counts rest (d ∷ ds) make.0 make.1

in_counts : (types : List Typ) (ds : List Thing) → AreIn types ds → length ds ≡ length types
in_counts [] [] are = refl
in_counts [] (d ∷ ds) are = absurd are
in_counts (t ∷ types) [] are = absurd are
in_counts (t ∷ types) (d ∷ ds) are = ap suc (in_counts types ds are.2)

-- items have as many types as operands, or make nothing
pub none_made : (all : Items) (types : List Typ) (e : Thing) → IsSequenceOf all types e
    → length types ≡ wanted all
none_made all types e (ds, made, are, make, same) =
    sym (in_counts types ds are) ∙ make_counts all ds made make

-- Whether a thing is a value, and whether it is an element, is known.
use Rattle.std.proofs.Common.{◌≡◌, ℤ, pos, negsuc, true, Option, Some, None, inl, inr, refl, arith, nat_lt, bytes_eq, codes}
use Rattle.std.specs.Ordering.{nat_cmp}
use Rattle.std.specs.Cmp.Lexicographic.{slice_cmp}
use Rattle.std.specs.declared.cmp.Ordering.{Ordering}
use Rattle.std.specs.declared.cmp.Ordering.TheVariants.{Less}
use Rattle.std.proofs.lemmas.Bool.{cases_Bool, ltb-true, ltb-false}
use Rattle.std.proofs.lemmas.Int.{ints}
use Rattle.std.proofs.lemmas.Slice.Eq.{bytes_eq-Decides}
use Rattle.cd_syntax.specs.Integer.{IsInteger}
use Rattle.cd_syntax.specs.Name.{Name, IsLabel, IsAbove, is_word}
use Rattle.cd_model.specs.Thing.{Thing, Integer, Character, Atom, Pair, Xml, Record, Function, Closure, Fields, NoField, Field, Pairs, NoPair, Maps, Fails}
use Rattle.cd_model.specs.Thing.{IsAtom, IsRecord, LabelsRise, IsElement, AreFields, ArePairs, IsValue, AreValues}
use Rattle.cd_model.proofs.HoldsOrNot.{HoldsOrNot, both_or_not, three_or_not, not_or_not, or_not_with, same_or_not}

-- an integer
integer_or_not : (z : ℤ) → HoldsOrNot (IsInteger z)
integer_or_not (pos n) = elim (cases_Bool (nat_lt n 170141183460469231731687303715884105728)) [
  | inl below ↦ inl (let most = ltb-true n 170141183460469231731687303715884105728 below in (omega (arith, ints), omega (arith, ints)))
  | inr not ↦ inr (λ is. let least = ltb-false n 170141183460469231731687303715884105728 not in let most = is.1 in omega (arith, ints))
]
integer_or_not (negsuc n) = elim (cases_Bool (nat_lt n 170141183460469231731687303715884105728)) [
  | inl below ↦ inl (let most = ltb-true n 170141183460469231731687303715884105728 below in (omega (arith, ints), omega (arith, ints)))
  | inr not ↦ inr (λ is. let least = ltb-false n 170141183460469231731687303715884105728 not in let most = is.0 in omega (arith, ints))
]

-- two names, a label, and a label above another
pub names_or_not : (one other : Name) → HoldsOrNot (one ≡ other)
names_or_not one other = or_not_with (bytes_eq-Decides one other).0 (bytes_eq-Decides one other).1 (same_or_not (bytes_eq one other) true)

pub label_or_not : (name : Name) → HoldsOrNot (IsLabel name)
label_or_not name = both_or_not (same_or_not (is_word name) true) (not_or_not (names_or_not name (codes "_")))

above_or_not : (before : Option Name) (label : Name) → HoldsOrNot (IsAbove before label)
above_or_not None label = inl tt
above_or_not (Some before) label = by_order (slice_cmp nat_cmp before label)
  where
    by_order : (order : Ordering) → HoldsOrNot (order ≡ Less)
    by_order Less = inl refl
    by_order _ = inr (λ same. cc)

labels_or_not : (before : Option Name) (fields : Fields) → HoldsOrNot (LabelsRise before fields)
labels_or_not before NoField = inl tt
labels_or_not before (Field label is rest) = both_or_not (above_or_not before label) (labels_or_not (Some label) rest)

atom_or_not : (tag : Thing) → HoldsOrNot (IsAtom tag)
atom_or_not (Atom name) = inl tt
atom_or_not _ = inr (λ is. is)

record_or_not : (attributes : Thing) → HoldsOrNot (IsRecord attributes)
record_or_not (Record fields) = inl tt
record_or_not _ = inr (λ is. is)

five_or_not : {A B C D E : Type 0} → HoldsOrNot A → HoldsOrNot B → HoldsOrNot C → HoldsOrNot D → HoldsOrNot E
    → HoldsOrNot (A × B × C × D × E)
five_or_not a b c d e = or_not_with (λ all. (all.0, all.1.0, all.1.1.0, all.1.1.1.0, all.1.1.1.1))
    (λ all. (all.0, (all.1, (all.2, (all.3, all.4))))) (both_or_not a (both_or_not b (both_or_not c (both_or_not d e))))

mutual
  pub element_or_not : (e : Thing) → HoldsOrNot (IsElement e)
  element_or_not (Integer n) = integer_or_not n
  element_or_not (Character c) = same_or_not _ true
  element_or_not (Atom name) = label_or_not name
  element_or_not (Pair first second) = both_or_not (element_or_not first) (element_or_not second)
  element_or_not (Xml tag attributes content) = five_or_not (atom_or_not tag) (record_or_not attributes)
      (element_or_not tag) (element_or_not attributes) (element_or_not content)
  element_or_not (Record fields) = both_or_not (labels_or_not None fields) (fields_or_not fields)
  element_or_not (Function pairs) = pairs_or_not pairs
  element_or_not (Closure function environment) = inr (λ is. is)

  fields_or_not : (fields : Fields) → HoldsOrNot (AreFields fields)
  fields_or_not NoField = inl tt
  fields_or_not (Field label is rest) = three_or_not (label_or_not label) (element_or_not is) (fields_or_not rest)

  pairs_or_not : (pairs : Pairs) → HoldsOrNot (ArePairs pairs)
  pairs_or_not NoPair = inl tt
  pairs_or_not (Maps argument result rest) = three_or_not (element_or_not argument) (element_or_not result) (pairs_or_not rest)
  pairs_or_not (Fails argument rest) = both_or_not (element_or_not argument) (pairs_or_not rest)

mutual
  pub value_or_not : (v : Thing) → HoldsOrNot (IsValue v)
  value_or_not (Integer n) = integer_or_not n
  value_or_not (Character c) = same_or_not _ true
  value_or_not (Atom name) = label_or_not name
  value_or_not (Pair first second) = both_or_not (value_or_not first) (value_or_not second)
  value_or_not (Xml tag attributes content) = five_or_not (atom_or_not tag) (record_or_not attributes)
      (value_or_not tag) (value_or_not attributes) (value_or_not content)
  value_or_not (Record fields) = both_or_not (labels_or_not None fields) (values_or_not fields)
  value_or_not (Function pairs) = inr (λ is. is)
  value_or_not (Closure function environment) = values_or_not environment

  values_or_not : (fields : Fields) → HoldsOrNot (AreValues fields)
  values_or_not NoField = inl tt
  values_or_not (Field label is rest) = three_or_not (label_or_not label) (value_or_not is) (values_or_not rest)

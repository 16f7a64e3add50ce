-- Two formulas are equal in one way at most: they are so where their parts are.
use Rattle.std.proofs.Common.{◌≡◌, List, refl, ap, subst}
use Rattle.std.proofs.Props.{props}
use Rattle.std.specs.Coded.{×_prop, Unit-prop}
use mathlib.Core.HLevel.{⊥_prop, collapsible→set}
use Rattle.cd_sets.specs.declared.node_id.NodeId.{NodeId}
use Rattle.cd_sets.specs.declared.interval.Interval.{Interval}
use Rattle.cd_sets.specs.Characters.{CharInterval}
use Rattle.cd_sets.specs.Atoms.{Atoms as AtomSet}
use Rattle.cd_syntax.specs.Name.{Name}
use Rattle.cd_model.specs.Formula.{Formula, Formulas, Nothing, Everything, Ints, Chars, Atoms, Pair, Xml, Record, Arrow, And, Or, Not, NoFormula, AFormula, Field}

ids_are : IsSet NodeId
ids_are = hlevel props

ints_are : IsSet (List Interval)
ints_are = hlevel props

chars_are : IsSet (List CharInterval)
chars_are = hlevel props

atoms_are : IsSet AtomSet
atoms_are = hlevel props

fields_are : IsSet (List (Name × Field))
fields_are = hlevel props

-- they are of one form, and their parts are the same
abbrev mutual
  Same : Formula → Formula → Type 0
  Same Nothing Nothing = Unit {0}
  Same Everything Everything = Unit {0}
  Same (Ints set) (Ints other) = set ≡ other
  Same (Chars set) (Chars other) = set ≡ other
  Same (Atoms set) (Atoms other) = set ≡ other
  Same (Pair first second) (Pair one other) = (first ≡ one) × (second ≡ other)
  Same (Xml tag attributes content) (Xml one other last) = (tag ≡ one) × ((attributes ≡ other) × (content ≡ last))
  Same (Record named rest) (Record others other) = (named ≡ others) × (rest ≡ other)
  Same (Arrow argument result) (Arrow one other) = (argument ≡ one) × (result ≡ other)
  Same (And formulas) (And others) = AreSame formulas others
  Same (Or formulas) (Or others) = AreSame formulas others
  Same (Not is) (Not other) = Same is other
  Same _ _ = ⊥

  AreSame : Formulas → Formulas → Type 0
  AreSame NoFormula NoFormula = Unit {0}
  AreSame (AFormula is rest) (AFormula other others) = Same is other × AreSame rest others
  AreSame _ _ = ⊥

mutual
  same_itself : (is : Formula) → Same is is
  same_itself Nothing = tt
  same_itself Everything = tt
  same_itself (Ints set) = refl
  same_itself (Chars set) = refl
  same_itself (Atoms set) = refl
  same_itself (Pair first second) = (refl, refl)
  same_itself (Xml tag attributes content) = (refl, (refl, refl))
  same_itself (Record named rest) = (refl, refl)
  same_itself (Arrow argument result) = (refl, refl)
  same_itself (And formulas) = same_list formulas
  same_itself (Or formulas) = same_list formulas
  same_itself (Not is) = same_itself is

  same_list : (formulas : Formulas) → AreSame formulas formulas
  same_list NoFormula = tt
  same_list (AFormula is rest) = (same_itself is, same_list rest)

mutual
  are_equal : (is other : Formula) → Same is other → is ≡ other
  are_equal Nothing Nothing same = refl
  are_equal Everything Everything same = refl
  are_equal (Ints set) (Ints other) same = ap Ints same
  are_equal (Chars set) (Chars other) same = ap Chars same
  are_equal (Atoms set) (Atoms other) same = ap Atoms same
  are_equal (Pair first second) (Pair one other) same = λ i. Pair (same.0 i) (same.1 i)
  are_equal (Xml tag attributes content) (Xml one other last) same = λ i. Xml (same.0 i) (same.1.0 i) (same.1.1 i)
  are_equal (Record named rest) (Record others other) same = λ i. Record (same.0 i) (same.1 i)
  are_equal (Arrow argument result) (Arrow one other) same = λ i. Arrow (same.0 i) (same.1 i)
  are_equal (And formulas) (And others) same = ap And (lists_are_equal formulas others same)
  are_equal (Or formulas) (Or others) same = ap Or (lists_are_equal formulas others same)
  are_equal (Not is) (Not other) same = ap Not (are_equal is other same)
  are_equal _ _ same = absurd same

  lists_are_equal : (formulas others : Formulas) → AreSame formulas others → formulas ≡ others
  lists_are_equal NoFormula NoFormula same = refl
  lists_are_equal (AFormula is rest) (AFormula other others) same =
      λ i. AFormula (are_equal is other same.0 i) (lists_are_equal rest others same.1 i)
  lists_are_equal _ _ same = absurd same

mutual
  same_in_one_way : (is other : Formula) → IsProp (Same is other)
  same_in_one_way Nothing Nothing = Unit-prop
  same_in_one_way Everything Everything = Unit-prop
  same_in_one_way (Ints set) (Ints other) = ints_are set other
  same_in_one_way (Chars set) (Chars other) = chars_are set other
  same_in_one_way (Atoms set) (Atoms other) = atoms_are set other
  same_in_one_way (Pair first second) (Pair one other) = ×_prop (ids_are first one) (ids_are second other)
  same_in_one_way (Xml tag attributes content) (Xml one other last) =
      ×_prop (ids_are tag one) (×_prop (ids_are attributes other) (ids_are content last))
  same_in_one_way (Record named rest) (Record others other) = ×_prop (fields_are named others) (ids_are rest other)
  same_in_one_way (Arrow argument result) (Arrow one other) = ×_prop (ids_are argument one) (ids_are result other)
  same_in_one_way (And formulas) (And others) = lists_in_one_way formulas others
  same_in_one_way (Or formulas) (Or others) = lists_in_one_way formulas others
  same_in_one_way (Not is) (Not other) = same_in_one_way is other
  same_in_one_way _ _ = ⊥_prop

  lists_in_one_way : (formulas others : Formulas) → IsProp (AreSame formulas others)
  lists_in_one_way NoFormula NoFormula = Unit-prop
  lists_in_one_way (AFormula is rest) (AFormula other others) =
      ×_prop (same_in_one_way is other) (lists_in_one_way rest others)
  lists_in_one_way _ _ = ⊥_prop

-- equal formulas are the same
same_from_equal : (is other : Formula) → is ≡ other → Same is other
same_from_equal is other equal = subst (Same is) equal (same_itself is)

pub formulas_are_a_set : IsSet Formula
formulas_are_a_set =
    collapsible→set
    (λ is other equal. are_equal is other (same_from_equal is other equal))
    (λ is other one way.
    let once = same_in_one_way is other (same_from_equal is other one) (same_from_equal is other way) in
    ap (are_equal is other) once)

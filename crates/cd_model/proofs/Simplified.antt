-- Unions and meets hold the same without doubles and without the members that change nothing.
use Rattle.std.proofs.Common.{◌≡◌, Bool, true, false, ◌⊎◌, inl, inr, ◌↔◌, refl, sym, subst}
use Rattle.std.proofs.lemmas.Bool.{true≢false, false≢true}
use Rattle.cd_sets.specs.declared.node_id.NodeId.{NodeId}
use Rattle.cd_model.specs.Formula.{Formula, Formulas, NoFormula, AFormula, Nothing, Everything, And, Or, Not, FormulaReader, holds, each_holds, one_holds}
use Rattle.cd_model.proofs.BothWays.{through}

-- a formula is one of these, and each of some is
abbrev pub Among : Formula → Formulas → Type 0
Among is NoFormula = ⊥
Among is (AFormula first rest) = (is ≡ first) ⊎ Among is rest

abbrev pub AreAmong : Formulas → Formulas → Type 0
AreAmong NoFormula all = Unit {0}
AreAmong (AFormula first rest) all = Among first all × AreAmong rest all

-- each of the first is among the others, but for those that change nothing
abbrev pub AreKept : (ChangesNothing : Formula → Type 0) → Formulas → Formulas → Type 0
AreKept ChangesNothing NoFormula parts = Unit {0}
AreKept ChangesNothing (AFormula first rest) parts =
    (ChangesNothing first ⊎ Among first parts) × AreKept ChangesNothing rest parts

-- these are all members, each at least once, but for those that change nothing
pub record HasMembers (ChangesNothing : Formula → Type 0) (parts all : Formulas) : Type 0 where
  pub among : AreAmong parts all
  pub kept : AreKept ChangesNothing all parts

-- what changes nothing in a union, and in a meet
abbrev pub AddsNothing : Formula → Type 0
AddsNothing is = is ≡ Nothing

abbrev pub TakesNothing : Formula → Type 0
TakesNothing is = (is ≡ Everything) ⊎ (is ≡ Not Nothing)

-- a union of some members, and one of no members and of one
pub data IsUnion : Formula → Formulas → Type 0 where
  no_part : (all : Formulas) → HasMembers AddsNothing NoFormula all → IsUnion Nothing all
  one_part : (is : Formula) (all : Formulas) → HasMembers AddsNothing (AFormula is NoFormula) all → IsUnion is all
  parts : (some all : Formulas) → HasMembers AddsNothing some all → IsUnion (Or some) all

-- a meet of some members, and one of no members and of one
pub data IsMeet : Formula → Formulas → Type 0 where
  no_part : (all : Formulas) → HasMembers TakesNothing NoFormula all → IsMeet Everything all
  one_part : (is : Formula) (all : Formulas) → HasMembers TakesNothing (AFormula is NoFormula) all → IsMeet is all
  parts : (some all : Formulas) → HasMembers TakesNothing some all → IsMeet (And some) all

module _ (read : FormulaReader NodeId) (answer : Bool) where
  -- what one of some answers, one of all does, and what all answer, each of them
  among_one : (is : Formula) (all : Formulas) → Among is all → holds read is answer → one_holds read all answer
  among_one is NoFormula among h = elim among [ ]
  among_one is (AFormula first rest) (inl same) h = inl (subst (λ is. holds read is answer) same h)
  among_one is (AFormula first rest) (inr later) h = inr (among_one is rest later h)

  among_each : (is : Formula) (all : Formulas) → Among is all → each_holds read all answer → holds read is answer
  among_each is NoFormula among h = elim among [ ]
  among_each is (AFormula first rest) (inl same) h = subst (λ is. holds read is answer) (sym same) h.0
  among_each is (AFormula first rest) (inr later) h = among_each is rest later h.1

  one_of_more : (some all : Formulas) → AreAmong some all → one_holds read some answer → one_holds read all answer
  one_of_more NoFormula all among h = elim h [ ]
  one_of_more (AFormula first rest) all among (inl h) = among_one first all among.0 h
  one_of_more (AFormula first rest) all among (inr h) = one_of_more rest all among.1 h

  each_of_more : (some all : Formulas) → AreAmong some all → each_holds read all answer → each_holds read some answer
  each_of_more NoFormula all among h = tt
  each_of_more (AFormula first rest) all among h =
      (among_each first all among.0 h, each_of_more rest all among.1 h)

  module _ (ChangesNothing : Formula → Type 0) where
    one_kept : ((is : Formula) → ChangesNothing is → holds read is answer → ⊥) → (all some : Formulas)
        → AreKept ChangesNothing all some → one_holds read all answer → one_holds read some answer
    one_kept none NoFormula some kept h = elim h [ ]
    one_kept none (AFormula first rest) some kept (inr h) = one_kept none rest some kept.1 h
    one_kept none (AFormula first rest) some kept (inl h) = by_member kept.0
      where
        by_member : ChangesNothing first ⊎ Among first some → one_holds read some answer
        by_member (inl nothing) = absurd (none first nothing h)
        by_member (inr among) = among_one first some among h

    each_kept : ((is : Formula) → ChangesNothing is → holds read is answer) → (all some : Formulas)
        → AreKept ChangesNothing all some → each_holds read some answer → each_holds read all answer
    each_kept every NoFormula some kept h = tt
    each_kept every (AFormula first rest) some kept h = (by_member kept.0, each_kept every rest some kept.1 h)
      where
        by_member : ChangesNothing first ⊎ Among first some → holds read first answer
        by_member (inl nothing) = every first nothing
        by_member (inr among) = among_each first some among h

    one_same : ((is : Formula) → ChangesNothing is → holds read is answer → ⊥) → (some all : Formulas)
        → HasMembers ChangesNothing some all → one_holds read some answer ↔ one_holds read all answer
    one_same none some all members = (one_of_more some all members.among, one_kept none all some members.kept)

    each_same : ((is : Formula) → ChangesNothing is → holds read is answer) → (some all : Formulas)
        → HasMembers ChangesNothing some all → each_holds read some answer ↔ each_holds read all answer
    each_same every some all members = (each_kept every all some members.kept, each_of_more some all members.among)

module _ (read : FormulaReader NodeId) where
  -- what nothing, everything, and what is not in nothing answer
  adds_none : (is : Formula) → AddsNothing is → holds read is true → ⊥
  adds_none is same h = true≢false (subst (λ is. holds read is true) same h)

  adds_each : (is : Formula) → AddsNothing is → holds read is false
  adds_each is same = subst (λ is. holds read is false) (sym same) refl

  takes_none : (is : Formula) → TakesNothing is → holds read is false → ⊥
  takes_none is (inl same) h = false≢true (subst (λ is. holds read is false) same h)
  takes_none is (inr same) h = true≢false (subst (λ is. holds read is false) same h)

  takes_each : (is : Formula) → TakesNothing is → holds read is true
  takes_each is (inl same) = subst (λ is. holds read is true) (sym same) refl
  takes_each is (inr same) = subst (λ is. holds read is true) (sym same) refl

  -- one member answers what a list of it alone does
  one_alone : (is : Formula) (answer : Bool) → holds read is answer ↔ one_holds read (AFormula is NoFormula) answer
  one_alone is answer = (inl, λ h. elim h [ inl here ↦ here | inr none ↦ elim none [ ] ])

  each_alone : (is : Formula) (answer : Bool) → holds read is answer ↔ each_holds read (AFormula is NoFormula) answer
  each_alone is answer = (λ h. (h, tt), λ h. h.0)

  pub union_holds : (is : Formula) (all : Formulas) → IsUnion is all → (answer : Bool)
      → holds read is answer ↔ holds read (Or all) answer
  union_holds _ _ (IsUnion.no_part all members) true =
      (λ h. absurd (true≢false h), λ h. elim ((one_same read true AddsNothing adds_none NoFormula all members).1 h) [ ])
  union_holds _ _ (IsUnion.no_part all members) false =
      (λ h. (each_same read false AddsNothing adds_each NoFormula all members).0 tt, λ h. refl)
  union_holds _ _ (IsUnion.one_part is all members) true =
      through (one_alone is true) (one_same read true AddsNothing adds_none (AFormula is NoFormula) all members)
  union_holds _ _ (IsUnion.one_part is all members) false =
      through (each_alone is false) (each_same read false AddsNothing adds_each (AFormula is NoFormula) all members)
  union_holds _ _ (IsUnion.parts some all members) true = one_same read true AddsNothing adds_none some all members
  union_holds _ _ (IsUnion.parts some all members) false = each_same read false AddsNothing adds_each some all members

  pub meet_holds : (is : Formula) (all : Formulas) → IsMeet is all → (answer : Bool)
      → holds read is answer ↔ holds read (And all) answer
  meet_holds _ _ (IsMeet.no_part all members) true =
      (λ h. (each_same read true TakesNothing takes_each NoFormula all members).0 tt, λ h. refl)
  meet_holds _ _ (IsMeet.no_part all members) false = (
    λ h. absurd (false≢true h),
    λ h. elim ((one_same read false TakesNothing takes_none NoFormula all members).1 h)
        [ ],
  )
  meet_holds _ _ (IsMeet.one_part is all members) true =
      through (each_alone is true) (each_same read true TakesNothing takes_each (AFormula is NoFormula) all members)
  meet_holds _ _ (IsMeet.one_part is all members) false =
      through (one_alone is false) (one_same read false TakesNothing takes_none (AFormula is NoFormula) all members)
  meet_holds _ _ (IsMeet.parts some all members) true = each_same read true TakesNothing takes_each some all members
  meet_holds _ _ (IsMeet.parts some all members) false = one_same read false TakesNothing takes_none some all members

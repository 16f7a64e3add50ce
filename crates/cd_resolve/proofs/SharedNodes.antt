-- In a graph that solves equations, nodes of one class have the same formula, but for classes.
use Rattle.std.proofs.Common.{◌≡◌, ℕ, zero, suc, ◌+◌, ◌-◌, ◌<◌, ◌≤◌, ◌⊎◌, inl, inr, Bool, true, false, List, [], ◌∷◌, ◌++◌}
use Rattle.std.proofs.Common.{map, length, Option, Some, refl, sym, ap, ap₂, subst, ◌∙◌, arith, if◌then◌else◌}
use Rattle.std.specs.Prelude.{nat_le}
use Rattle.std.specs.List.{slice_get}
use Rattle.std.proofs.lemmas.Bool.{leb-true, leb-false, true≢false}
use Rattle.std.proofs.lemmas.Option.{slice_get_within}
use Rattle.cd_sets.specs.declared.node_id.NodeId.{NodeId}
use Rattle.cd_model.specs.AllOf.{AllOf}
use Rattle.cd_model.specs.BuiltIns.{node}
use Rattle.cd_model.specs.Formula as formula
use Rattle.cd_model.specs.Formula.{Graph, Formula, formula_at, formulas_of}
use Rattle.cd_model.proofs.Covered.{each_both}
use Rattle.cd_model.proofs.Ones.{each_weaker}
use Rattle.cd_shared.specs.Equation.{Equation, Equations, Is, Same, And, Or}
use Rattle.cd_shared.specs.Shared.{renamed_formula, classed, classed_sign, IsNoName, AreRenamed}
use Rattle.cd_shared.proofs.Renaming.{of_list}
use Rattle.cd_resolve.specs.Inner.Links.{number_at, numbers_of, numbers_under, links}
use Rattle.cd_resolve.specs.Inner.Order.{IsShort, Ends, row}
use Rattle.cd_resolve.specs.Inner.Solves.{signed, made, Solves}
use Rattle.cd_resolve.proofs.LinksRows.{row_of_equation}

-- what is short is short by one more
longer : (rows : List (List ℕ)) (most number : ℕ) → IsShort rows most number
    → IsShort rows (suc most) number
longer rows zero number short = absurd short
longer rows (suc most) number short = each_weaker (IsShort rows most) (IsShort rows (suc most))
    (longer rows most) (row rows number) short

-- facts of two lists of numbers, one after the other
split : (Fact : ℕ → Type 0) (some others : List ℕ) → AllOf Fact (some ++ others)
    → AllOf Fact some × AllOf Fact others
split Fact [] others all = (tt, all)
split Fact (number ∷ some) others all =
    let rest = split Fact some others all.1 in ((all.0, rest.0), rest.1)

module _ (class : NodeId → NodeId) (first : ℕ) (equations shared : Equations)
    (are : AreRenamed class first equations shared) (graph : Graph)
    (solves : Solves graph first equations)
    (ends : (number : ℕ) → number < length equations → Ends (links first equations) number) where
  abbrev rows : List (List ℕ)
  rows = links first equations

  -- all ways from a node are so short
  abbrev ShortAt : ℕ → NodeId → Type 0
  ShortAt most id = AllOf (IsShort rows most) (number_at first id)

  abbrev formula_with : NodeId → Formula
  formula_with id = renamed_formula class (formula_at graph id)

  -- a node is a class of its own, outside of the equations, or has an equation
  data Place (id : NodeId) : Type 0 where
    outside : class id ≡ id → (id.0 < first) ⊎ (first + length equations ≤ id.0) → Place id
    inside : (number : ℕ) (equation : Equation) → id ≡ node (first + number)
        → slice_get equations number ≡ Some (Some equation) → Place id

  place : (id : NodeId) → Place id
  place id = by_first (nat_le first id.0) refl
    where
      by_last : first ≤ id.0 → (test : Bool) → nat_le (first + length equations) id.0 ≡ test
          → Place id
      by_last from true same =
          let past = leb-true (first + length equations) id.0 same in
          outside (are.past id past) (inr past)
      by_last from false same =
          let less : id.0 < first + length equations = leb-false _ id.0 same in
          let is = are.each (id.0 - first) (omega (arith, from, less)) in
          let there : id.0 ≡ first + (id.0 - first) = omega (arith, from) in
          inside (id.0 - first) is.0 (ap node there) is.1

      by_first : (test : Bool) → nat_le first id.0 ≡ test → Place id
      by_first true same =
          by_last (leb-true first id.0 same) (nat_le (first + length equations) id.0) refl
      by_first false same = let less = leb-false first id.0 same in
          outside (are.before id less) (inl less)

  -- the number of a node that has an equation
  number_there : (number : ℕ) (Fact : ℕ → Type 0) → AllOf Fact (number_at first (node (first + number)))
      → Fact number
  number_there number Fact all = by_test (nat_le first (first + number)) refl all
    where
      by_test : (test : Bool) → nat_le first (first + number) ≡ test
          → AllOf Fact (if test then (first + number - first) ∷ [] else []) → Fact number
      by_test true same all =
          let is : first + number - first ≡ number = omega arith in subst Fact is all.0
      by_test false same all =
          let less : first + number < first = leb-false first (first + number) same in
          absurd (omega (arith, less))

  number_short : (number : ℕ) (Fact : ℕ → Type 0) → Fact number
      → AllOf Fact (number_at first (node (first + number)))
  number_short number Fact fact = by_test (nat_le first (first + number))
    where
      is : first + number - first ≡ number
      is = omega arith

      by_test : (test : Bool) → AllOf Fact (if test then (first + number - first) ∷ [] else [])
      by_test true = (subst Fact (sym is) fact, tt)
      by_test false = tt

  -- what a chain of names leads to has no name's equation
  data End (id : NodeId) : Type 0 where
    old : class id ≡ id → (id.0 < first) ⊎ (first + length equations ≤ id.0) → End id
    own : (number : ℕ) (equation : Equation) → id ≡ node (first + number)
        → slice_get equations number ≡ Some (Some equation) → IsNoName equation → End id

  record Led (most : ℕ) (id : NodeId) : Type 0 where
    to : NodeId
    class_is : class id ≡ class to
    same : formula_at graph id ≡ formula_at graph to
    short : ShortAt most to
    end : End to

  longer_at : (most : ℕ) (id : NodeId) → ShortAt most id → ShortAt (suc most) id
  longer_at most id short = each_weaker (IsShort rows most) (IsShort rows (suc most))
      (longer rows most) (number_at first id) short

  itself : (most : ℕ) (id : NodeId) → ShortAt most id → End id → Led most id
  itself most id short end = record {
    to = id;
    class_is = refl;
    same = refl;
    short = short;
    end = end;
  }

  by_place : (most : ℕ) (id : NodeId) → ShortAt most id → Place id → Led most id
  by_place most id short (outside same side) = itself most id short (old same side)
  by_place most id short (inside number (Is is) at there) =
      itself most id short (own number (Is is) at there tt)
  by_place most id short (inside number (And signs) at there) =
      itself most id short (own number (And signs) at there tt)
  by_place most id short (inside number (Or ids) at there) =
      itself most id short (own number (Or ids) at there tt)
  by_place zero id short (inside number (Same next) at there) = absurd
      (number_there number (IsShort rows zero) (subst (ShortAt zero) at short))
  by_place (suc most) id short (inside number (Same next) at there) =
      let row_is : row rows number ≡ number_at first next =
      row_of_equation first equations number (Same next) there in
      let below : ShortAt most next = subst (AllOf (IsShort rows most)) row_is
      (number_there number (IsShort rows (suc most)) (subst (ShortAt (suc most)) at short)) in
      let rest = by_place most next below (place next) in
      record {
        to = rest.to;
        class_is = ap class at ∙ are.name number next there ∙ rest.class_is;
        same = ap (formula_at graph) at ∙ solves.each number (Same next) there ∙ rest.same;
        short = longer_at most rest.to rest.short;
        end = rest.end;
      }

  led : (most : ℕ) (id : NodeId) → ShortAt most id → Led most id
  led most id short = by_place most id short (place id)

  -- nodes of one class have the same formula, where all ways from the first are so short
  abbrev Alike : ℕ → Type 0
  Alike most = (one other : NodeId) → ShortAt most one → (more : ℕ) → ShortAt more other
      → class one ≡ class other → formula_with one ≡ formula_with other

  abbrev AlikeBelow : ℕ → Type 0
  AlikeBelow zero = Unit {0}
  AlikeBelow (suc most) = Alike most

  sign_alike : (kept next : Bool) (is other : Formula) → kept ≡ next
      → renamed_formula class is ≡ renamed_formula class other
      → renamed_formula class (signed kept is) ≡ renamed_formula class (signed next other)
  sign_alike true true is other same alike = alike
  sign_alike true false is other same alike = absurd (true≢false same)
  sign_alike false true is other same alike = absurd (true≢false (sym same))
  sign_alike false false is other same alike = ap formula.Not alike

  module _ (most more : ℕ) (alike : Alike most) where
    signs_alike : (signs others : List (Bool × NodeId))
        → AllOf (IsShort rows most) (numbers_of first (map (λ sign. sign.1) signs))
        → AllOf (IsShort rows more) (numbers_of first (map (λ sign. sign.1) others))
        → map (classed_sign class) signs ≡ map (classed_sign class) others
        → map (renamed_formula class) (map (λ sign. signed sign.0 (formula_at graph sign.1)) signs)
        ≡ map (renamed_formula class) (map (λ sign. signed sign.0 (formula_at graph sign.1)) others)
    signs_alike [] [] short next same = refl
    signs_alike [] (other ∷ others) short next same = absurd cc
    signs_alike (sign ∷ signs) [] short next same = absurd cc
    signs_alike (sign ∷ signs) (other ∷ others) short next same =
        let first_same : classed_sign class sign ≡ classed_sign class other = cc in
        let rest_same : map (classed_sign class) signs ≡ map (classed_sign class) others = cc in
        let shorts = split (IsShort rows most) (number_at first sign.1)
        (numbers_of first (map (λ sign. sign.1) signs)) short in
        let nexts = split (IsShort rows more) (number_at first other.1)
        (numbers_of first (map (λ sign. sign.1) others)) next in
        ap₂ (λ (one : Formula) (rest : List Formula). one ∷ rest)
        (sign_alike sign.0 other.0 (formula_at graph sign.1) (formula_at graph other.1)
        (ap (λ (sign : Bool × NodeId). sign.0) first_same)
        (alike sign.1 other.1 shorts.0 more nexts.0
        (ap (λ (sign : Bool × NodeId). sign.1) first_same)))
        (signs_alike signs others shorts.1 nexts.1 rest_same)

    nodes_alike : (ids others : List NodeId)
        → AllOf (IsShort rows most) (numbers_of first ids)
        → AllOf (IsShort rows more) (numbers_of first others)
        → map class ids ≡ map class others
        → map (renamed_formula class) (map (formula_at graph) ids)
        ≡ map (renamed_formula class) (map (formula_at graph) others)
    nodes_alike [] [] short next same = refl
    nodes_alike [] (other ∷ others) short next same = absurd cc
    nodes_alike (id ∷ ids) [] short next same = absurd cc
    nodes_alike (id ∷ ids) (other ∷ others) short next same =
        let first_same : class id ≡ class other = cc in
        let rest_same : map class ids ≡ map class others = cc in
        let shorts = split (IsShort rows most) (number_at first id) (numbers_of first ids) short in
        let nexts = split (IsShort rows more) (number_at first other) (numbers_of first others) next
        in
        ap₂ (λ (one : Formula) (rest : List Formula). one ∷ rest)
        (alike id other shorts.0 more nexts.0 first_same)
        (nodes_alike ids others shorts.1 nexts.1 rest_same)

    made_alike : (equation next : Equation) → IsNoName equation → IsNoName next
        → AllOf (IsShort rows most) (numbers_under first (Some equation))
        → AllOf (IsShort rows more) (numbers_under first (Some next))
        → classed class equation ≡ classed class next
        → renamed_formula class (made (formula_at graph) equation)
        ≡ renamed_formula class (made (formula_at graph) next)
    made_alike (Same id) next alone apart short shorter same = absurd alone
    made_alike (Is is) (Same id) alone apart short shorter same = absurd apart
    made_alike (And signs) (Same id) alone apart short shorter same = absurd apart
    made_alike (Or ids) (Same id) alone apart short shorter same = absurd apart
    made_alike (Is is) (Is other) alone apart short shorter same =
        let formulas : renamed_formula class is ≡ renamed_formula class other = cc in formulas
    made_alike (Is is) (And others) alone apart short shorter same = absurd cc
    made_alike (Is is) (Or others) alone apart short shorter same = absurd cc
    made_alike (And signs) (Is other) alone apart short shorter same = absurd cc
    made_alike (And signs) (Or others) alone apart short shorter same = absurd cc
    made_alike (Or ids) (Is other) alone apart short shorter same = absurd cc
    made_alike (Or ids) (And others) alone apart short shorter same = absurd cc
    made_alike (And signs) (And others) alone apart short shorter same =
        let all : map (classed_sign class) signs ≡ map (classed_sign class) others = cc in
        ap formula.And
        (of_list class (map (λ sign. signed sign.0 (formula_at graph sign.1)) signs)
        ∙ ap formulas_of (signs_alike signs others short shorter all)
        ∙ sym (of_list class (map (λ sign. signed sign.0 (formula_at graph sign.1)) others)))
    made_alike (Or ids) (Or others) alone apart short shorter same =
        let all : map class ids ≡ map class others = cc in
        ap formula.Or
        (of_list class (map (formula_at graph) ids)
        ∙ ap formulas_of (nodes_alike ids others short shorter all)
        ∙ sym (of_list class (map (formula_at graph) others)))

  -- what an equation stands over is shorter
  under : (most number : ℕ) (equation : Equation) (id : NodeId) → id ≡ node (first + number)
      → slice_get equations number ≡ Some (Some equation) → ShortAt (suc most) id
      → AllOf (IsShort rows most) (numbers_under first (Some equation))
  under most number equation id at there short =
      subst (AllOf (IsShort rows most)) (row_of_equation first equations number equation there)
      (number_there number (IsShort rows (suc most)) (subst (ShortAt (suc most)) at short))

  never_short : (number : ℕ) (id : NodeId) → id ≡ node (first + number) → ShortAt zero id → ⊥
  never_short number id at short =
      number_there number (IsShort rows zero) (subst (ShortAt zero) at short)

  -- a node from outside has no class of one with an equation
  apart : (one other : NodeId) (number : ℕ) (equation : Equation) → one ≡ node (first + number)
      → slice_get equations number ≡ Some (Some equation) → IsNoName equation
      → class other ≡ other → (other.0 < first) ⊎ (first + length equations ≤ other.0)
      → class one ≡ class other → ⊥
  apart one other number equation at there alone itself where_it_is same =
      by_side where_it_is
    where
      class_is : class (node (first + number)) ≡ other
      class_is = sym (ap class at) ∙ same ∙ itself

      from : first ≤ other.0
      from = subst (λ (id : NodeId). first ≤ id.0) class_is (are.own number equation there alone)

      within : number < length equations
      within = slice_get_within equations number (Some equation) there

      below : other.0 < first + length equations
      below = subst (λ (id : NodeId). id.0 < first + length equations) class_is
          (are.below (node (first + number)) (omega (arith, within)))

      by_side : (other.0 < first) ⊎ (first + length equations ≤ other.0) → ⊥
      by_side (inl less) = omega (arith, less, from)
      by_side (inr past) = omega (arith, past, below)

  at_ends : (most : ℕ) → AlikeBelow most → (one other : NodeId) → ShortAt most one → (more : ℕ)
      → ShortAt more other → End one → End other → class one ≡ class other
      → formula_with one ≡ formula_with other
  at_ends most below one other short more next (old itself _) (old alone _) same =
      ap formula_with (sym itself ∙ same ∙ alone)
  at_ends most below one other short more next (old itself side) (own number equation at there alone) same =
      absurd (apart other one number equation at there alone itself side (sym same))
  at_ends most below one other short more next (own number equation at there alone) (old itself side) same =
      absurd (apart one other number equation at there alone itself side same)
  at_ends zero below one other short more next (own number equation at there alone) (own _ _ _ _ _) same =
      absurd (never_short number one at short)
  at_ends (suc most) below one other short zero next (own _ _ _ _ _) (own number equation at there alone) same =
      absurd (never_short number other at next)
  at_ends (suc most) below one other short (suc more) next (own number equation at there alone)
      (own number' equation' at' there' alone') same =
      ap (renamed_formula class) (ap (formula_at graph) at ∙ solves.each number equation there)
      ∙ made_alike most more below equation equation' alone alone'
      (under most number equation one at there short)
      (under more number' equation' other at' there' next)
      (are.alike number number' equation equation' there there' alone alone'
      (sym (ap class at) ∙ same ∙ ap class at'))
      ∙ ap (renamed_formula class)
      (sym (ap (formula_at graph) at' ∙ solves.each number' equation' there'))

  of_one_class : (most : ℕ) → AlikeBelow most → Alike most
  of_one_class most below one other short more next same =
      let a = led most one short in
      let b = led more other next in
      ap (renamed_formula class) a.same
      ∙ at_ends most below a.to b.to a.short more b.short a.end b.end
      (sym a.class_is ∙ same ∙ b.class_is)
      ∙ sym (ap (renamed_formula class) b.same)

  all_alike : (most : ℕ) → Alike most
  all_alike zero = of_one_class zero tt
  all_alike (suc most) = of_one_class (suc most) (all_alike most)

  short_of : (id : NodeId) → id.0 < first + length equations → (most : ℕ) × ShortAt most id
  short_of id below = by_place_of (place id)
    where
      none : (test : Bool) → nat_le first id.0 ≡ test → id.0 < first
          → AllOf (IsShort rows zero) (if test then (id.0 - first) ∷ [] else [])
      none true same less = let from = leb-true first id.0 same in absurd (omega (arith, from, less))
      none false same less = tt

      by_place_of : Place id → (most : ℕ) × ShortAt most id
      by_place_of (outside itself (inl less)) = (zero, none (nat_le first id.0) refl less)
      by_place_of (outside itself (inr past)) = absurd (omega (arith, past, below))
      by_place_of (inside number equation at there) =
          let ended = ends number (slice_get_within equations number (Some equation) there) in (
            ended.0,
            subst (ShortAt ended.0) (sym at)
                (number_short number (IsShort rows ended.0) ended.1),
          )

  -- a node has the formula of its class
  pub class_alike : (id : NodeId) → renamed_formula class (formula_at graph (class id))
      ≡ renamed_formula class (formula_at graph id)
  class_alike id = by_place_of (place id)
    where
      by_place_of : Place id → formula_with (class id) ≡ formula_with id
      by_place_of (outside itself _) = ap formula_with itself
      by_place_of (inside number equation at there) =
          let within = slice_get_within equations number (Some equation) there in
          let less : id.0 < first + length equations =
          subst (λ (id : NodeId). id.0 < first + length equations) (sym at) (omega (arith, within)) in
          let one = short_of id less in
          let other = short_of (class id) (are.below id less) in
          sym (all_alike one.0 id (class id) one.1 other.0 other.1 (sym (are.once id)))

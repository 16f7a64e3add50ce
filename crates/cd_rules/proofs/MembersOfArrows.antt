-- A clause of arrows of which each need is met has a member: a function with one pair for each refused arrow.
use Rattle.std.proofs.Common.{◌≡◌, true, false, List, [], ◌∷◌, map, ◌⊎◌, inl, inr, refl, subst}
use Rattle.cd_model.specs.Thing as thing
use Rattle.cd_model.specs.Thing.{Thing, IsElement, ArePairs}
use Rattle.cd_model.specs.AllOf.{AllOf, AnyOf}
use Rattle.cd_model.specs.Formula.{Graph}
use Rattle.cd_model.specs.Membership.{answers, mapping}
use Rattle.cd_rules.specs.Clauses.{Arrows, Pair}
use Rattle.cd_rules.specs.Members.{HasElement, HasMember, IsMet, HasAllNeeds}
use Rattle.cd_rules.specs.Needs.{splits, arrow_way}
use Rattle.cd_rules.proofs.Answered.{map_of_each, each_of_asked}
use Rattle.cd_rules.proofs.ArrowsForward.{ArgumentIsOutside, ResultIsInside, IsInArrow}
use Rattle.cd_model.proofs.Ones.{each_weaker, one_picked}
use Rattle.cd_rules.proofs.PairsBack.{both_of_each}
use Rattle.cd_rules.proofs.Sides.{splits_back}

-- a function is outside an arrow
abbrev pub IsOutsideArrow : Graph → thing.Pairs → Pair → Type 0
IsOutsideArrow graph pairs parts = mapping graph pairs parts.0 parts.1 false

-- a function is in each wanted arrow and outside each refused one
abbrev pub IsInArrows : Graph → (wanted refused : List Pair) → thing.Pairs → Type 0
IsInArrows graph wanted refused pairs =
    ArePairs pairs × AllOf (IsInArrow (mapping graph pairs)) wanted × AllOf (IsOutsideArrow graph pairs) refused

-- a function without pairs is in all arrows
pub none_in_arrows : (graph : Graph) (wanted : List Pair) → AllOf (IsInArrow (mapping graph thing.NoPair)) wanted
none_in_arrows graph [] = tt
none_in_arrows graph (parts ∷ wanted) = (refl, none_in_arrows graph wanted)

module _ (graph : Graph) (wanted refused : List Pair) (one : Pair) (pairs : thing.Pairs)
    (rest : IsInArrows graph wanted refused pairs) where
  -- a pair that maps an argument of one more arrow out of its result, and is right for the wanted ones
  pub with_maps : (from to : Thing) → IsElement from → IsElement to
      → answers graph from one.0 true → answers graph to one.1 false
      → AllOf (λ parts. ArgumentIsOutside (answers graph from) parts ⊎ ResultIsInside (answers graph to) parts) wanted
      → IsInArrows graph wanted (one ∷ refused) (thing.Maps from to pairs)
  with_maps from to from_is to_is inside outside right = (
    (from_is, to_is, rest.0),
    both_of_each (λ parts. ArgumentIsOutside (answers graph from) parts ⊎ ResultIsInside (answers graph to) parts) (IsInArrow (mapping graph pairs))
        wanted right rest.1,
    (
      inl (inside, outside),
      each_weaker (IsOutsideArrow graph pairs) (IsOutsideArrow graph (thing.Maps from to pairs))
          (λ parts out. inr out) refused rest.2,
    ),
  )

  -- a pair that fails at an argument of one more arrow, and is right for the wanted ones
  pub with_fails : (from : Thing) → IsElement from → answers graph from one.0 true
      → AllOf (ArgumentIsOutside (answers graph from)) wanted
      → IsInArrows graph wanted (one ∷ refused) (thing.Fails from pairs)
  with_fails from from_is inside right = (
    (from_is, rest.0),
    both_of_each (ArgumentIsOutside (answers graph from)) (IsInArrow (mapping graph pairs)) wanted right rest.1,
    (
      inl inside,
      each_weaker (IsOutsideArrow graph pairs) (IsOutsideArrow graph (thing.Fails from pairs))
          (λ parts out. inr out) refused rest.2,
    ),
  )

  -- where all wanted arrows are given to the one side, an element of the only question is what the function fails at
  added_fails : (given : List Pair) → AnyOf (λ other. other ≡ (given, [])) (splits wanted)
      → AllOf (HasElement graph) (arrow_way one (given, []))
      → (more : thing.Pairs) × IsInArrows graph wanted (one ∷ refused) more
  added_fails given is have =
      let from = have.0.0 in
      let asked = each_of_asked (answers graph from) (one.0 ∷ []) (map (λ parts. parts.0) given) have.0.2 in
      let outside = map_of_each (λ (parts : Pair). parts.0) (λ id. answers graph from id false) given asked.1 in
      let right = splits_back (ArgumentIsOutside (answers graph from)) (λ parts. ⊥) wanted (given, []) is outside tt in (
        thing.Fails from pairs,
        with_fails from have.0.1 asked.0.0 (each_weaker (λ parts. ArgumentIsOutside (answers graph from) parts ⊎ ⊥)
            (ArgumentIsOutside (answers graph from)) only wanted right),
      )
    where
      only : (parts : Pair) → ArgumentIsOutside (answers graph have.0.0) parts ⊎ ⊥ → ArgumentIsOutside (answers graph have.0.0) parts
      only parts (inl out) = out
      only parts (inr no_way) = absurd no_way

  -- where some are given to the other side, the function maps an element of the first question to one of the second
  added_maps : (given : List Pair) (first : Pair) (others : List Pair)
      → AnyOf (λ other. other ≡ (given, first ∷ others)) (splits wanted)
      → AllOf (HasElement graph) (arrow_way one (given, first ∷ others))
      → (more : thing.Pairs) × IsInArrows graph wanted (one ∷ refused) more
  added_maps given first others is have =
      let from = have.0.0 in
      let to = have.1.0.0 in
      let of_from = each_of_asked (answers graph from) (one.0 ∷ []) (map (λ parts. parts.0) given) have.0.2 in
      let of_to = each_of_asked (answers graph to) (map (λ parts. parts.1) (first ∷ others)) (one.1 ∷ []) have.1.0.2 in
      let outside = map_of_each (λ (parts : Pair). parts.0) (λ id. answers graph from id false) given of_from.1 in
      let inside = map_of_each (λ (parts : Pair). parts.1) (λ id. answers graph to id true) (first ∷ others) of_to.0 in (
        thing.Maps from to pairs,
        with_maps from to have.0.1 have.1.0.1 of_from.0.0 of_to.1.0
            (splits_back (ArgumentIsOutside (answers graph from)) (ResultIsInside (answers graph to)) wanted (given, first ∷ others) is
            outside inside),
      )

  -- a way of one more refused arrow adds a pair for it
  added : (given others : List Pair) → AnyOf (λ other. other ≡ (given, others)) (splits wanted)
      → AllOf (HasElement graph) (arrow_way one (given, others))
      → (more : thing.Pairs) × IsInArrows graph wanted (one ∷ refused) more
  added given [] is have = added_fails given is have
  added given (first ∷ others) is have = added_maps given first others is have

-- a function with one pair for each refused arrow, by recursion on these
pub function_of_ways : (graph : Graph) (wanted refused : List Pair)
    → AllOf (IsMet (HasElement graph)) (map (λ one. map (arrow_way one) (splits wanted)) refused)
    → (pairs : thing.Pairs) × IsInArrows graph wanted refused pairs
function_of_ways graph wanted [] each = (thing.NoPair, (tt, none_in_arrows graph wanted, tt))
function_of_ways graph wanted (one ∷ refused) each =
    let rest = function_of_ways graph wanted refused each.1 in
    let way = one_picked (arrow_way one) (AllOf (HasElement graph)) (splits wanted) each.0 in
    added graph wanted refused one rest.0 rest.1 way.0.0 way.0.1 way.1 way.2

-- where each need of a clause of arrows is met, a function is in the clause
pub arrows_have : (graph : Graph) (wanted refused : List Pair) → HasAllNeeds (HasElement graph) (Arrows wanted refused)
    → HasMember graph (Arrows wanted refused)
arrows_have graph wanted refused have =
    let made = function_of_ways graph wanted refused (subst (AllOf (IsMet (HasElement graph))) have.1 have.2) in
    (thing.Function made.0, made.1.0, (refl, made.1.1, made.1.2))

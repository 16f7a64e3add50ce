-- A function that is in all wanted arrows and not in a refused one has a pair that gives a way of this need.
use Rattle.std.proofs.Common.{◌≡◌, ℕ, true, false, List, [], ◌∷◌, map, ◌⊎◌, inl, inr, refl, sym, subst}
use Rattle.std.proofs.lemmas.Bool.{true≢false}
use Rattle.cd_sets.specs.declared.node_id.NodeId.{NodeId}
use Rattle.cd_sets.specs.declared.question.Question.{Question}
use Rattle.cd_model.specs.Thing as thing
use Rattle.cd_model.specs.Thing.{Thing, IsElement}
use Rattle.cd_model.specs.AllOf.{AllOf, AnyOf}
use Rattle.cd_model.specs.Formula.{Graph, nodes}
use Rattle.cd_model.specs.Membership as node
use Rattle.cd_model.specs.Membership.{Answers, Mapping, answers}
use Rattle.cd_model.specs.Interfaces.{Interfaces, admits}
use Rattle.cd_model.specs.Types.{no_closure}
use Rattle.cd_model.proofs.Apart.{element_apart}
use Rattle.cd_model.proofs.ApartAtNodes.{nodes_keep}
use Rattle.cd_model.proofs.DecidedAtNodes.{in_or_outside}
use Rattle.cd_model.proofs.Logic.{both_or, swapped, maps_or, both_apart, maps_apart}
use Rattle.cd_rules.specs.Clauses.{Pair}
use Rattle.cd_rules.specs.Needs.{question, splits, result_questions, arrow_way}
use Rattle.cd_rules.proofs.Asking.{each_of_map, asked_of_each}
use Rattle.cd_model.proofs.Ones.{each_weaker, one_weaker, one_of_map}
use Rattle.cd_rules.proofs.Sides.{HaveBoth, AllToOne, one_splits, one_gives_all}
use Rattle.cd_rules.proofs.Things.{IsAskedFact, answers_of, mapping_of}

-- an argument is outside of an arrow's, a result is in an arrow's, and a function is in an arrow
abbrev pub ArgumentIsOutside : Answers → Pair → Type 0
ArgumentIsOutside from parts = from parts.0 false

abbrev pub ResultIsInside : Answers → Pair → Type 0
ResultIsInside to parts = to parts.1 true

abbrev pub IsInArrow : Mapping → Pair → Type 0
IsInArrow maps parts = maps parts.0 parts.1 true

module _ (Fact : Question → Type 0) (refused : Pair) where
  -- an argument that is in the refused one's, and outside of those of some arrows, answers the first question of their way
  argument_asked : (from : Answers) → IsAskedFact Fact from → from refused.0 true
      → (others : List Pair) → AllOf (ArgumentIsOutside from) others
      → Fact (question (refused.0 ∷ []) (map (λ parts. parts.0) others))
  argument_asked from have is others outside =
      have (question (refused.0 ∷ []) (map (λ parts. parts.0) others))
      (asked_of_each from (refused.0 ∷ []) (map (λ parts. parts.0) others) (is, tt)
      (each_of_map (λ (parts : Pair). parts.0) (λ id. from id false) others outside))

  -- a result that is outside of the refused one's, and in those of some arrows, answers the other questions of their way
  result_asked : (to : Answers) → IsAskedFact Fact to → to refused.1 false
      → (others : List Pair) → AllOf (ResultIsInside to) others
      → AllOf Fact (result_questions refused others)
  result_asked to have out [] inside = tt
  result_asked to have out (one ∷ others) inside = (
    have (question (map (λ parts. parts.1) (one ∷ others)) (refused.1 ∷ []))
        (asked_of_each to (map (λ parts. parts.1) (one ∷ others)) (refused.1 ∷ [])
        (each_of_map (λ (parts : Pair). parts.1) (λ id. to id true) (one ∷ others) inside) (out, tt)),
    tt,
  )

  -- where there are no other arrows there are no such questions
  no_result_asked : (others : List Pair) → others ≡ [] → AllOf Fact (result_questions refused others)
  no_result_asked others none = subst (λ others. AllOf Fact (result_questions refused others)) (sym none) tt

  -- a pair that maps a refused argument out of the refused result gives a way
  way_of_maps : (from to : Answers) → IsAskedFact Fact from → IsAskedFact Fact to → from refused.0 true → to refused.1 false
      → (wanted : List Pair) → AllOf (λ parts. ArgumentIsOutside from parts ⊎ ResultIsInside to parts) wanted
      → AnyOf (AllOf Fact) (map (arrow_way refused) (splits wanted))
  way_of_maps from to has_from has_to is out wanted each =
      one_of_map (arrow_way refused) (AllOf Fact) (splits wanted)
      (one_weaker (HaveBoth (ArgumentIsOutside from) (ResultIsInside to)) (λ sides. AllOf Fact (arrow_way refused sides))
      (λ sides are. (argument_asked from has_from is sides.0 are.0, result_asked to has_to out sides.1 are.1))
      (splits wanted) (one_splits (ArgumentIsOutside from) (ResultIsInside to) wanted each))

  -- a pair that fails at a refused argument gives a way
  way_of_fails : (from : Answers) → IsAskedFact Fact from → from refused.0 true
      → (wanted : List Pair) → AllOf (ArgumentIsOutside from) wanted
      → AnyOf (AllOf Fact) (map (arrow_way refused) (splits wanted))
  way_of_fails from has_from is wanted each =
      one_of_map (arrow_way refused) (AllOf Fact) (splits wanted)
      (one_weaker (AllToOne (ArgumentIsOutside from)) (λ sides. AllOf Fact (arrow_way refused sides))
      (λ sides are. (argument_asked from has_from is sides.0 are.0, no_result_asked sides.1 are.1)) (splits wanted)
      (one_gives_all (ArgumentIsOutside from) wanted each))

module _ (graph : Graph) (closed : ℕ → Mapping) (Fact : Question → Type 0) where
  -- what each argument and each result of a function is asked has the fact
  abbrev pub PartsHave : thing.Pairs → Type 0
  PartsHave thing.NoPair = Unit {0}
  PartsHave (thing.Maps from to rest) =
      IsAskedFact Fact (answers_of graph closed from) × IsAskedFact Fact (answers_of graph closed to) × PartsHave rest
  PartsHave (thing.Fails from rest) = IsAskedFact Fact (answers_of graph closed from) × PartsHave rest

  abbrev maps : thing.Pairs → Mapping
  maps = mapping_of graph closed

  -- a function that is in all wanted arrows and not in the refused one gives a way, by recursion on its pairs
  pub arrows_forward : (pairs : thing.Pairs) → PartsHave pairs → (wanted : List Pair) (refused : Pair)
      → AllOf (IsInArrow (maps pairs)) wanted → maps pairs refused.0 refused.1 false
      → AnyOf (AllOf Fact) (map (arrow_way refused) (splits wanted))
  arrows_forward thing.NoPair have wanted refused each out = absurd (true≢false (sym out))
  arrows_forward (thing.Maps from to rest) have wanted refused each (inl here) =
      way_of_maps Fact refused (answers_of graph closed from) (answers_of graph closed to) have.0 have.1 here.0 here.1 wanted
      (each_weaker (IsInArrow (maps (thing.Maps from to rest)))
      (λ parts. ArgumentIsOutside (answers_of graph closed from) parts ⊎ ResultIsInside (answers_of graph closed to) parts)
      (λ parts is. is.0) wanted each)
  arrows_forward (thing.Maps from to rest) have wanted refused each (inr later) = arrows_forward rest have.2 wanted refused
      (each_weaker (IsInArrow (maps (thing.Maps from to rest))) (IsInArrow (maps rest)) (λ parts is. is.1) wanted each) later
  arrows_forward (thing.Fails from rest) have wanted refused each (inl here) =
      way_of_fails Fact refused (answers_of graph closed from) have.0 here wanted
      (each_weaker (IsInArrow (maps (thing.Fails from rest))) (ArgumentIsOutside (answers_of graph closed from))
      (λ parts is. is.0) wanted each)
  arrows_forward (thing.Fails from rest) have wanted refused each (inr later) = arrows_forward rest have.1 wanted refused
      (each_weaker (IsInArrow (maps (thing.Fails from rest))) (IsInArrow (maps rest)) (λ parts is. is.1) wanted each) later

-- a function maps one node into another, or it does not
pub mapping_decided : (graph : Graph) (pairs : thing.Pairs) (argument result : NodeId)
    → node.mapping graph pairs argument result true ⊎ node.mapping graph pairs argument result false
mapping_decided graph thing.NoPair argument result = inl refl
mapping_decided graph (thing.Maps from to rest) argument result = maps_or (in_or_outside graph from argument)
    (in_or_outside graph to result) (mapping_decided graph rest argument result)
mapping_decided graph (thing.Fails from rest) argument result =
    both_or (swapped (in_or_outside graph from argument)) (mapping_decided graph rest argument result)

-- and not both
pub mapping_apart : (graph : Graph) (pairs : thing.Pairs) (argument result : NodeId)
    → node.mapping graph pairs argument result true → node.mapping graph pairs argument result false → ⊥
mapping_apart graph thing.NoPair argument result is out = true≢false (sym out)
mapping_apart graph (thing.Maps from to rest) argument result is out =
    maps_apart (element_apart (nodes graph) (nodes_keep graph) from argument) (element_apart (nodes graph) (nodes_keep graph) to result)
    (mapping_apart graph rest argument result) is out
mapping_apart graph (thing.Fails from rest) argument result is out =
    both_apart (λ outside inside. element_apart (nodes graph) (nodes_keep graph) from argument inside outside)
    (mapping_apart graph rest argument result) is out

-- what all elements are asked has the fact
abbrev pub ElementsHave : Graph → (Question → Type 0) → Type 0
ElementsHave graph Fact = (is : Thing) → IsElement is → IsAskedFact Fact (answers graph is)

-- so does what the arguments and the results of a function are asked
pub parts_have : (graph : Graph) (Fact : Question → Type 0) → ElementsHave graph Fact
    → (pairs : thing.Pairs) → IsElement (thing.Function pairs) → PartsHave graph no_closure Fact pairs
parts_have graph Fact have thing.NoPair sound = tt
parts_have graph Fact have (thing.Maps from to rest) sound =
    (have from sound.0, have to sound.1, parts_have graph Fact have rest sound.2)
parts_have graph Fact have (thing.Fails from rest) sound = (have from sound.0, parts_have graph Fact have rest sound.1)

-- where there is no way, no closure is in all wanted arrows and not in the refused one: each function that is in all
-- arrows of its interface is in the refused one
pub closure_forward : (graph : Graph) (interfaces : Interfaces) (function : ℕ) (Fact : Question → Type 0)
    → ElementsHave graph Fact → (wanted : List Pair) (refused : Pair)
    → AllOf (IsInArrow (node.closure_mapping graph interfaces function)) wanted
    → node.closure_mapping graph interfaces function refused.0 refused.1 false
    → (AnyOf (AllOf Fact) (map (arrow_way refused) (splits wanted)) → ⊥) → ⊥
closure_forward graph interfaces function Fact have wanted refused each out no_way =
    out (λ pairs sound arrows. in_refused pairs sound arrows (mapping_decided graph pairs refused.0 refused.1))
  where
    in_refused : (pairs : thing.Pairs) → IsElement (thing.Function pairs)
        → admits interfaces function pairs
        → node.mapping graph pairs refused.0 refused.1 true ⊎ node.mapping graph pairs refused.0 refused.1 false
        → node.mapping graph pairs refused.0 refused.1 true
    in_refused pairs sound arrows (inl is) = is
    in_refused pairs sound arrows (inr outside) = absurd (no_way (arrows_forward graph no_closure Fact pairs
        (parts_have graph Fact have pairs sound) wanted refused
        (each_weaker (IsInArrow (node.closure_mapping graph interfaces function)) (IsInArrow (node.mapping graph pairs))
        (λ parts all. all pairs sound arrows) wanted each) outside))

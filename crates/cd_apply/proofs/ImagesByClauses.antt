-- What functions of a node give, and where they fail, by the clauses of the node.
use Rattle.std.proofs.Common.{◌≡◌, List, [], ◌∷◌, inl, refl, sym, subst, ◌↔◌}
use Rattle.cd_sets.specs.declared.node_id.NodeId.{NodeId}
use Rattle.cd_model.specs.AllOf.{AnyOf}
use Rattle.cd_model.specs.Formula.{Graph, IsIn}
use Rattle.cd_model.specs.Kinds.{AFunction}
use Rattle.cd_model.specs.Membership.{reader, mapping}
use Rattle.cd_model.specs.Thing.{Thing, Function, Pairs, Maps, Fails, IsElement}
use Rattle.cd_model.specs.Types.{no_closure}
use Rattle.cd_rules.specs.Clauses.{Clause, Arrows, IsClauseOfQuestion, IsInClause}
use Rattle.cd_rules.specs.Needs.{question}
use Rattle.cd_rules.proofs.ArrowsForward.{IsInArrow}
use Rattle.cd_rules.proofs.ClausesExact.{thing_exact}
use Rattle.cd_model.proofs.Ones.{each_weaker, one_weaker, one_leads, one_with_each}
use Rattle.cd_meaning.specs.Sets.{elements_of}
use Rattle.cd_meaning.specs.Functions as functions
use Rattle.cd_meaning.specs.Functions.{HasPair, FailsAt, IsGiven, IsOutsideDomain, AllMapInto}
use Rattle.cd_meaning.specs.Functions.{IsFunction}
use Rattle.cd_apply.specs.Inner.Results.{IsBeyond, IsRight}
use Rattle.cd_apply.specs.Inner.FunctionClauses.{FunctionClause, IsClauseOf, AreClausesOf}
use Rattle.cd_apply.specs.Inner.FunctionClauses.{GivesResult, MayFailAt}
use Rattle.cd_apply.proofs.PairsOfFunctions.{pair_elements, failing_element, pair_is_right}
use Rattle.cd_apply.proofs.PairsOfFunctions.{fails_beyond, with_pair, with_failure}
use Rattle.cd_apply.proofs.FunctionsOfClauses.{IsOf, function_of, has_function}

module _ (graph : Graph) (function : NodeId) (clauses : List FunctionClause)
    (are : AreClausesOf graph function clauses) where
  abbrev IsOfNode : Pairs → Type 0
  IsOfNode pairs = functions.HasFunction (elements_of graph function) pairs

  -- a function of the node is in one of its clauses, and back
  in_clause : (pairs : Pairs) → IsOfNode pairs → AnyOf (λ clause. IsOf graph clause pairs) clauses
  in_clause pairs is = by_clause clause.0 clause.1 clause.2
    where
      clause : (clause : Clause) × IsClauseOfQuestion graph (question (function ∷ []) []) clause
          × IsInClause AFunction (reader graph (Function pairs)) clause
      clause = (thing_exact graph no_closure (question (function ∷ []) []) (Function pairs)).0
          ((is.1, tt), tt)

      by_clause : (clause : Clause)
          → IsClauseOfQuestion graph (question (function ∷ []) []) clause
          → IsInClause AFunction (reader graph (Function pairs)) clause
          → AnyOf (λ clause. IsOf graph clause pairs) clauses
      by_clause (Arrows wanted refused) of within =
          one_weaker (λ other. other ≡ record { wanted = wanted; refused = refused })
          (λ clause. IsOf graph clause pairs)
          (λ other same. subst (λ clause. IsOf graph clause pairs) (sym same)
          (is.0, within.1, within.2)) clauses
          (are.complete (record { wanted = wanted; refused = refused }) of)
      by_clause _ of within = absurd cc

  of_clause : (clause : FunctionClause) → IsClauseOf graph function clause → (pairs : Pairs)
      → IsOf graph clause pairs → IsOfNode pairs
  of_clause clause of pairs is = (
    is.0,
    ((thing_exact graph no_closure (question (function ∷ []) []) (Function pairs)).1
        (Arrows clause.wanted clause.refused, of, (refl, is.1, is.2))).0.0,
  )

  -- the results for arguments in a node
  module _ (argument : NodeId) (to : Thing) where
    given_by_clauses : IsGiven (elements_of graph function) (elements_of graph argument) to
        → AnyOf (GivesResult graph argument to) clauses
    given_by_clauses (pairs, from, is, has, inside) =
        one_weaker (λ clause. IsOf graph clause pairs) (GivesResult graph argument to)
        (λ clause of. (
          has_function graph clause pairs of,
          (
            from,
            (pair_elements pairs from to is.0 has).0,
            ((inside, tt), tt),
            each_weaker (IsInArrow (mapping graph pairs)) (IsRight graph from to)
                (λ arrow maps. pair_is_right graph pairs from to arrow has maps) clause.wanted of.1,
          ),
        ))
        clauses (in_clause pairs is)

    clauses_give : IsElement to → AnyOf (GivesResult graph argument to) clauses
        → IsGiven (elements_of graph function) (elements_of graph argument) to
    clauses_give to_is some =
        one_leads
        (λ clause. GivesResult graph argument to clause × IsClauseOf graph function clause) given
        clauses
        (one_with_each (GivesResult graph argument to) (IsClauseOf graph function) clauses some
        are.sound)
      where
        given : (clause : FunctionClause)
            → GivesResult graph argument to clause × IsClauseOf graph function clause
            → IsGiven (elements_of graph function) (elements_of graph argument) to
        given clause ((has, (from, from_is, asking, right)), of) =
            let one = function_of graph clause has in (
              Maps from to one.0,
              from,
              of_clause clause of (Maps from to one.0) (with_pair graph clause.wanted clause.refused
                  one.0 one.1 from to from_is to_is right),
              inl (refl, refl),
              asking.0.0,
            )

    pub given_exactly : IsElement to
        → IsGiven (elements_of graph function) (elements_of graph argument) to
        ↔ AnyOf (GivesResult graph argument to) clauses
    given_exactly to_is = (given_by_clauses, clauses_give to_is)

  -- where they fail
  module _ (from : Thing) where
    fails_by_clauses : IsOutsideDomain (elements_of graph function) from
        → AnyOf (MayFailAt graph from) clauses
    fails_by_clauses (pairs, is, fails) =
        one_weaker (λ clause. IsOf graph clause pairs) (MayFailAt graph from)
        (λ clause of. (
          has_function graph clause pairs of,
          each_weaker (IsInArrow (mapping graph pairs)) (IsBeyond graph from)
              (λ arrow maps. fails_beyond graph pairs from arrow fails maps) clause.wanted of.1,
        ))
        clauses (in_clause pairs is)

    clauses_fail : IsElement from → AnyOf (MayFailAt graph from) clauses
        → IsOutsideDomain (elements_of graph function) from
    clauses_fail from_is some =
        one_leads (λ clause. MayFailAt graph from clause × IsClauseOf graph function clause) outside
        clauses
        (one_with_each (MayFailAt graph from) (IsClauseOf graph function) clauses some are.sound)
      where
        outside : (clause : FunctionClause)
            → MayFailAt graph from clause × IsClauseOf graph function clause
            → IsOutsideDomain (elements_of graph function) from
        outside clause ((has, beyond), of) =
            let one = function_of graph clause has in (
              Fails from one.0,
              of_clause clause of (Fails from one.0) (with_failure graph clause.wanted
                  clause.refused one.0 one.1 from from_is beyond),
              inl refl,
            )

    pub outside_exactly : IsElement from
        → IsOutsideDomain (elements_of graph function) from ↔ AnyOf (MayFailAt graph from) clauses
    outside_exactly from_is = (fails_by_clauses, clauses_fail from_is)

-- where none of the functions fails at an argument, they map the arguments into what holds their
-- results
pub all_map_into : (old new : Graph) (function argument result : NodeId)
    → ((e : Thing) → IsElement e → IsIn old e function → IsFunction e)
    → ((from : Thing) → IsElement from → IsIn old from argument
    → IsOutsideDomain (elements_of old function) from → ⊥)
    → ((to : Thing) → IsElement to
    → IsGiven (elements_of old function) (elements_of old argument) to → IsIn new to result)
    → AllMapInto (elements_of old function) (elements_of old argument) (elements_of new result)
all_map_into old new function argument result alone domain image = record {
  functions_alone = alone;
  into = λ pairs is. record {
    total = λ from fails inside. domain from (failing_element pairs from is.0 fails) inside
        (pairs, is, fails);
    into = λ from to has inside. image to (pair_elements pairs from to is.0 has).1
        (pairs, from, is, has, inside);
  };
}

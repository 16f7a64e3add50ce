-- What functions of clauses give, gathered clause by clause.
use Rattle.std.proofs.Common.{◌≡◌, ◌<◌, ◌+◌, ℕ, List, [], ◌∷◌, ◌⊎◌, inl, inr, ◌↔◌, length, map}
use Rattle.std.proofs.Common.{Bool, true, IsTrue, Option, Some, None, take, get_or, sym, subst, ◌∙◌}
use Rattle.cd_sets.specs.declared.node_id.NodeId.{NodeId}
use Rattle.cd_sets.specs.declared.question.Question.{Question}
use Rattle.cd_model.specs.AllOf.{AllOf, AnyOf}
use Rattle.cd_model.specs.Formula.{Graph, IsIn}
use Rattle.cd_model.specs.Thing.{Thing, IsElement}
use Rattle.cd_elements.specs.Table.{element_at}
use Rattle.cd_elements.specs.declared.shape.ElementId.{ElementId}
use Rattle.cd_rules.specs.Clauses.{Pair}
use Rattle.cd_rules.specs.Family.{AsksNodes}
use Rattle.cd_rules.specs.Needs.{question}
use Rattle.cd_rules.proofs.Answered.{map_of_each}
use Rattle.cd_model.proofs.Ones.{one_of_map}
use Rattle.cd_apply.specs.Inner.Found.{IsFoundBeyond, AddsImage}
use Rattle.cd_apply.specs.Inner.FunctionClauses.{FunctionClause, HasFunction, GivesResult}
use Rattle.cd_apply.specs.Inner.FunctionClauses.{MayFailAt, IsClauseWithin}
use Rattle.cd_apply.specs.Inner.Images.{AddsClause}
use Rattle.cd_apply.specs.Inner.ImageUnions.{IsImageUnion, IsUnionWith, NamesArgument}
use Rattle.cd_apply.specs.Inner.Results.{IsInOne, IsResult}
use Rattle.cd_apply.proofs.TakenThings.{one_made_taken, each_at, one_at}

module _ (graph : Graph) (argument : NodeId) where
  -- the union of some clauses with one clause more
  module _ {X : Type 0} (plain : X → FunctionClause) (clauses : List X) (i : ℕ) where
    pub image_further : (clause : X) → i < length clauses → clause ≡ get_or clauses i clause
        → (before after : List Question)
        → IsImageUnion graph argument (map plain (take i clauses)) before
        → IsUnionWith graph argument (plain clause) before after
        → IsImageUnion graph argument (map plain (take (i + 1) clauses)) after
    image_further clause below is before after so_far more = record {
      total = λ from element inside fails. none from element inside
          ((one_made_taken clauses i clause below is plain (MayFailAt graph from)).0 fails);
      exact = λ to. (
        λ some. (one_made_taken clauses i clause below is plain (GivesResult graph argument to)).1
            (there to ((more.exact to).0 some)),
        λ gives. (more.exact to).1 (back to
            ((one_made_taken clauses i clause below is plain (GivesResult graph argument to)).0
            gives)),
      );
      asks = more.asks;
    }
      where
        none : (from : Thing) → IsElement from → IsIn graph from argument
            → AnyOf (MayFailAt graph from) (map plain (take i clauses))
            ⊎ MayFailAt graph from (plain clause) → ⊥
        none from element inside (inl first) = so_far.total from element inside first
        none from element inside (inr last) = more.total from element inside last

        there : (to : Thing)
            → IsInOne graph before to ⊎ GivesResult graph argument to (plain clause)
            → AnyOf (GivesResult graph argument to) (map plain (take i clauses))
            ⊎ GivesResult graph argument to (plain clause)
        there to (inl old) = inl ((so_far.exact to).0 old)
        there to (inr new) = inr new

        back : (to : Thing)
            → AnyOf (GivesResult graph argument to) (map plain (take i clauses))
            ⊎ GivesResult graph argument to (plain clause)
            → IsInOne graph before to ⊎ GivesResult graph argument to (plain clause)
        back to (inl old) = inl ((so_far.exact to).1 old)
        back to (inr new) = inr new

  module _ (clause : FunctionClause) where
    -- a clause whose functions fail at no argument adds their results
    pub adds_results : HasFunction graph clause → (table : List Thing)
        → IsFoundBeyond graph table argument clause.wanted None → (before after : List Question)
        → AddsImage graph (question (argument ∷ []) []) clause.wanted before after
        → AllOf (AsksNodes (length graph)) after
        → IsUnionWith graph argument clause before after
    adds_results has table none before after adds asks = record {
      total = λ from is inside fails. none from is inside fails.1;
      exact = λ to. (
        λ some. there to ((adds to).0 some),
        λ either. (adds to).1 (back to either),
      );
      asks = asks;
    }
      where
        there : (to : Thing)
            → IsInOne graph before to
            ⊎ IsResult graph (question (argument ∷ []) []) clause.wanted to
            → IsInOne graph before to ⊎ GivesResult graph argument to clause
        there to (inl old) = inl old
        there to (inr new) = inr (has, new)

        back : (to : Thing) → IsInOne graph before to ⊎ GivesResult graph argument to clause
            → IsInOne graph before to
            ⊎ IsResult graph (question (argument ∷ []) []) clause.wanted to
        back to (inl old) = inl old
        back to (inr new) = inr new.1

    pub fails_at : HasFunction graph clause → (table : List Thing) (id : ElementId)
        → IsFoundBeyond graph table argument clause.wanted (Some id)
        → NamesArgument graph argument table id × MayFailAt graph (element_at table id) clause
    fails_at has table id found = ((found.0, found.1, found.2), (has, found.3))

  -- as the code finds it, in worlds with the same graph
  module _ (clause : FunctionClause) (has : Bool) (says : IsTrue has ↔ HasFunction graph clause)
      (there : has ≡ true) (wanted : List Pair) (wants : wanted ≡ clause.wanted) (first : Graph)
      (one : first ≡ graph) (table : List Thing) (found : Option ElementId)
      (beyond : IsFoundBeyond first table argument wanted found) where
    found_here : IsFoundBeyond graph table argument clause.wanted found
    found_here = subst (λ (g : Graph). IsFoundBeyond g table argument clause.wanted found) one
        (subst (λ (all : List Pair). IsFoundBeyond first table argument all found) wants beyond)

    pub fails_as_found : (id : ElementId) → found ≡ Some id
        → NamesArgument graph argument table id × MayFailAt graph (element_at table id) clause
    fails_as_found id some = fails_at clause (says.0 there) table id
        (subst (IsFoundBeyond graph table argument clause.wanted) some found_here)

    pub added_as_found : found ≡ None → (second : Graph) → second ≡ first
        → (before after : List Question)
        → AddsImage second (question (argument ∷ []) []) wanted before after
        → AllOf (AsksNodes (length second)) after
        → IsUnionWith graph argument clause before after
    added_as_found none second two before after adds asks =
        adds_results clause (says.0 there) table
        (subst (IsFoundBeyond graph table argument clause.wanted) none found_here) before after
        (subst (λ (all : List Pair). AddsImage graph (question (argument ∷ []) []) all before after)
        wants
        (subst (λ (g : Graph). AddsImage g (question (argument ∷ []) []) wanted before after)
        (two ∙ one) adds))
        (subst (λ (g : Graph). AllOf (AsksNodes (length g)) after) (two ∙ one) asks)

  -- of clauses that are gone over
  module _ {X : Type 0} (plain : X → FunctionClause) (clauses : List X) (i : ℕ) (clause : X)
      (below : i < length clauses) (is : clause ≡ get_or clauses i clause) where
    pub clause_within : AllOf (IsClauseWithin (length graph)) (map plain clauses) → (other : Graph)
        → other ≡ graph → IsClauseWithin (length other) (plain clause)
    clause_within within other same =
        subst (λ (g : Graph). IsClauseWithin (length g) (plain clause)) (sym same)
        (each_at (λ one. IsClauseWithin (length graph) (plain one)) clauses i clause below is
        (map_of_each plain (IsClauseWithin (length graph)) clauses within))

    module _ (other : Graph) (same : other ≡ graph) (table : List Thing)
        (before after : List Question) (found : Option ElementId)
        (adds : AddsClause other argument table (plain clause) before after found) where
      adds_here : AddsClause graph argument table (plain clause) before after found
      adds_here =
          subst (λ (g : Graph). AddsClause g argument table (plain clause) before after found) same
          adds

      pub fails_among : (id : ElementId) → found ≡ Some id → NamesArgument graph argument table id
          × AnyOf (MayFailAt graph (element_at table id)) (map plain clauses)
      fails_among id some =
          let fails = subst (AddsClause graph argument table (plain clause) before after) some
          adds_here in (
            fails.0,
            one_of_map plain (MayFailAt graph (element_at table id)) clauses
                (one_at (λ one. MayFailAt graph (element_at table id) (plain one)) clauses i clause
                below is fails.1),
          )

      pub further_as_found : found ≡ None
          → IsImageUnion graph argument (map plain (take i clauses)) before
          → IsImageUnion graph argument (map plain (take (i + 1) clauses)) after
      further_as_found none so_far =
          image_further plain clauses i clause below is before after so_far
          (subst (AddsClause graph argument table (plain clause) before after) none adds_here)

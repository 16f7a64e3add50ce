-- The clauses of functions among all clauses of a node.
use Rattle.std.proofs.Common.{◌≡◌, ◌⊎◌, inl, inr, List, [], ◌∷◌, length, map, refl, sym, subst}
use Rattle.cd_sets.specs.declared.node_id.NodeId.{NodeId}
use Rattle.cd_sets.specs.declared.question.Question.{Question}
use Rattle.cd_model.specs.AllOf.{AllOf, AnyOf}
use Rattle.cd_model.specs.Formula.{Graph, IsGraph}
use Rattle.cd_rules.specs.BasicSets.{IsBasic}
use Rattle.cd_rules.specs.Clauses.{Clause, Arrows, IsClauseOfQuestion}
use Rattle.cd_rules.specs.Needs.{question}
use Rattle.cd_rules.proofs.Asking.{each_of_map}
use Rattle.cd_model.proofs.Ones.{each_weaker, each_of_lists, one_on_left, one_on_right, one_of_map}
use Rattle.cd_rules.proofs.PartsAsk.{clause_is_within}
use Rattle.cd_apply.specs.Inner.FunctionClauses.{FunctionClause, IsClauseWithin, IsClauseOf}
use Rattle.cd_apply.specs.Inner.FunctionClauses.{AreClausesOf, function_clause_of, functions_among}

module _ (graph : Graph) (function : NodeId) where
  abbrev IsOfNode : Clause → Type 0
  IsOfNode clause = IsClauseOfQuestion graph (question (function ∷ []) []) clause

  one_sound : (clause : Clause) → IsOfNode clause
      → AllOf (IsClauseOf graph function) (function_clause_of clause)
  one_sound (Arrows wanted refused) of = (of, tt)
  one_sound _ of = tt

  all_sound : (all : List Clause) → AllOf IsOfNode all
      → AllOf (IsClauseOf graph function) (functions_among all)
  all_sound [] each = tt
  all_sound (clause ∷ all) each = each_of_lists (IsClauseOf graph function)
      (function_clause_of clause) (functions_among all) (one_sound clause each.0)
      (all_sound all each.1)

  among : (clause : FunctionClause) (all : List Clause)
      → AnyOf (λ other. other ≡ Arrows clause.wanted clause.refused) all
      → AnyOf (λ other. other ≡ clause) (functions_among all)
  among clause [] none = absurd none
  among clause (other ∷ all) (inl same) =
      one_on_left (λ other. other ≡ clause) (function_clause_of other) (functions_among all)
      (subst (λ (one : Clause). AnyOf (λ other. other ≡ clause) (function_clause_of one)) (sym same)
      (inl refl))
  among clause (other ∷ all) (inr later) =
      one_on_right (λ other. other ≡ clause) (function_clause_of other) (functions_among all)
      (among clause all later)

  pub are_clauses : (all : List Clause) → AllOf IsOfNode all
      → ((clause : Clause) → IsOfNode clause
      → IsBasic clause ⊎ AnyOf (λ other. other ≡ clause) all)
      → AreClausesOf graph function (functions_among all)
  are_clauses all sound complete = record {
    sound = all_sound all sound;
    complete = λ clause of. among clause all (there clause of);
  }
    where
      there : (clause : FunctionClause) → IsClauseOf graph function clause
          → AnyOf (λ other. other ≡ Arrows clause.wanted clause.refused) all
      there clause of = elim (complete (Arrows clause.wanted clause.refused) of) [
        | inl basic ↦ absurd basic
        | inr is ↦ is
      ]

  -- as the code finds them
  pub clauses_found : {X : Type 0} (plain : X → Clause) (all : List X) (asked : Question)
      → asked ≡ question (function ∷ []) []
      → AllOf (λ clause. IsClauseOfQuestion graph asked (plain clause)) all
      → ((clause : Clause) → IsClauseOfQuestion graph asked clause
      → IsBasic clause ⊎ AnyOf (λ other. plain other ≡ clause) all)
      → AreClausesOf graph function (functions_among (map plain all))
  clauses_found plain all asked same sound complete = are_clauses (map plain all)
      (each_of_map plain IsOfNode all
      (each_weaker (λ clause. IsClauseOfQuestion graph asked (plain clause))
      (λ clause. IsOfNode (plain clause))
      (λ clause of. subst (λ q. IsClauseOfQuestion graph q (plain clause)) same of) all sound))
      (λ clause of. there clause
      (complete clause (subst (λ q. IsClauseOfQuestion graph q clause) (sym same) of)))
    where
      there : (clause : Clause) → IsBasic clause ⊎ AnyOf (λ other. plain other ≡ clause) all
          → IsBasic clause ⊎ AnyOf (λ other. other ≡ clause) (map plain all)
      there clause (inl basic) = inl basic
      there clause (inr some) = inr (one_of_map plain (λ other. other ≡ clause) all some)

  -- their arrows are of nodes of the graph
  pub clauses_within : IsGraph graph → (clauses : List FunctionClause)
      → AreClausesOf graph function clauses → AllOf (IsClauseWithin (length graph)) clauses
  clauses_within sound clauses are =
      each_weaker (IsClauseOf graph function) (IsClauseWithin (length graph))
      (λ clause of. clause_is_within graph sound (question (function ∷ []) [])
      (Arrows clause.wanted clause.refused) of) clauses are.sound

-- The pairs of a question are those in the boxes of its clauses of pairs.
use Rattle.std.proofs.Common.{◌≡◌, ℕ, Bool, true, false, List, [], ◌∷◌, ◌⊎◌, inl, inr, map, refl}
use Rattle.std.proofs.Common.{ap, sym, subst}
use Rattle.std.proofs.lemmas.Bool.{true≢false}
use Rattle.cd_sets.specs.declared.node_id.NodeId.{NodeId}
use Rattle.cd_sets.specs.declared.question.Question.{Question}
use Rattle.cd_model.specs.AllOf.{AllOf, AnyOf}
use Rattle.cd_model.specs.Formula as formula
use Rattle.cd_model.specs.Formula.{Graph}
use Rattle.cd_model.specs.Kinds.{Kind, APair}
use Rattle.cd_model.specs.Membership.{Answers, Mapping, Reader}
use Rattle.cd_model.specs.Thing as thing
use Rattle.cd_model.specs.Thing.{Thing}
use Rattle.cd_model.proofs.Ones.{one_on_left, one_on_right, one_on_a_side}
use Rattle.cd_rules.specs.Clauses.{Clause, Pair, Ints, Chars, Atoms, Pairs, Xmls, Records, Arrows}
use Rattle.cd_rules.specs.Clauses.{IsClauseOfQuestion, IsInClause}
use Rattle.cd_rules.proofs.ClausesExact.{thing_exact}
use Rattle.cd_rules.proofs.Things.{answers_of, reader_of}
use Rattle.cd_rules.proofs.WaysExact.{pair_exact}
use Rattle.cd_products.specs.InBoxes.{InClause, OutsideRow}
use Rattle.cd_products.specs.QuestionBoxes.{QuestionClause, InQuestion, InClauses, ArePairClauses}
use Rattle.cd_products.specs.Inner.ClauseBoxes.{AreClauses, pair_row, pair_box, pair_box_of}
use Rattle.cd_products.specs.Inner.ClauseBoxes.{pair_boxes}
use Rattle.cd_products.proofs.AmongClauses.{among_clauses}

abbrev is_pair : Kind → Bool
is_pair APair = true
is_pair _ = false

-- whatever closures map
module _ (graph : Graph) (closed : ℕ → Mapping) (first second : Thing) where
  abbrev answers : Thing → Answers
  answers = answers_of graph closed

  abbrev things : List Thing
  things = first ∷ second ∷ []

  abbrev at_pair : Reader
  at_pair = reader_of graph closed (thing.Pair first second)

  abbrev IsIn : QuestionClause → Type 0
  IsIn = InClause Thing Question NodeId (InQuestion answers) answers things

  abbrev IsOut : List NodeId → Type 0
  IsOut = OutsideRow Thing Question NodeId (InQuestion answers) answers things

  out : (refused : List Pair)
      → AllOf (λ parts. at_pair (formula.Pair parts.0 parts.1) false) refused
      → AllOf IsOut (map pair_row refused)
  out [] each = tt
  out (parts ∷ refused) each = (by_part each.0, out refused each.1)
    where
      by_part : answers first parts.0 false ⊎ answers second parts.1 false
          → IsOut (pair_row parts)
      by_part (inl is) = inl is
      by_part (inr is) = inr (inl is)

  out_back : (refused : List Pair) → AllOf IsOut (map pair_row refused)
      → AllOf (λ parts. at_pair (formula.Pair parts.0 parts.1) false) refused
  out_back [] each = tt
  out_back (parts ∷ refused) each = (by_part each.0, out_back refused each.1)
    where
      by_part : IsOut (pair_row parts)
          → answers first parts.0 false ⊎ answers second parts.1 false
      by_part (inl is) = inl is
      by_part (inr (inl is)) = inr is
      by_part (inr (inr none)) = absurd none

  -- a pair is in a clause exactly when its parts are in the clause's box
  in_box : (wanted refused : List Pair) → IsInClause APair at_pair (Pairs wanted refused)
      → IsIn (pair_box wanted refused)
  in_box wanted refused within =
      elim ((pair_exact wanted [] (answers first) (answers second)).0 (refl, within.1, tt)) [
        | inl inside ↦ (inside, out refused within.2)
        | inr none ↦ absurd none
      ]

  in_clause : (wanted refused : List Pair) → IsIn (pair_box wanted refused)
      → IsInClause APair at_pair (Pairs wanted refused)
  in_clause wanted refused inside =
      let back = (pair_exact wanted [] (answers first) (answers second)).1 (inl inside.0) in
      (refl, back.1, out_back refused inside.1)

  box_of_clause : (clause : Clause) → IsInClause APair at_pair clause
      → AnyOf IsIn (pair_box_of clause)
  box_of_clause (Pairs wanted refused) within = inl (in_box wanted refused within)
  box_of_clause (Ints _ _) within = absurd (true≢false (ap is_pair within.0))
  box_of_clause (Chars _ _) within = absurd (true≢false (ap is_pair within.0))
  box_of_clause (Atoms _ _) within = absurd (true≢false (ap is_pair within.0))
  box_of_clause (Xmls _ _) within = absurd (true≢false (ap is_pair within.0))
  box_of_clause (Records _ _) within = absurd (true≢false (ap is_pair within.0))
  box_of_clause (Arrows _ _) within = absurd (true≢false (ap is_pair within.0))

  clause_of_box : (clause : Clause) → AnyOf IsIn (pair_box_of clause)
      → IsInClause APair at_pair clause
  clause_of_box (Pairs wanted refused) (inl inside) = in_clause wanted refused inside
  clause_of_box (Pairs wanted refused) (inr none) = absurd none
  clause_of_box _ none = absurd none

  box_among : (clause : Clause) (all : List Clause) → AnyOf (λ other. other ≡ clause) all
      → IsInClause APair at_pair clause → AnyOf IsIn (pair_boxes all)
  box_among clause [] among within = absurd among
  box_among clause (other ∷ all) (inl same) within =
      one_on_left IsIn (pair_box_of other) (pair_boxes all)
      (box_of_clause other (subst (IsInClause APair at_pair) (sym same) within))
  box_among clause (other ∷ all) (inr later) within =
      one_on_right IsIn (pair_box_of other) (pair_boxes all) (box_among clause all later within)

  clause_among : (all : List Clause) (fact : Clause → Type 0) → AllOf fact all
      → AnyOf IsIn (pair_boxes all)
      → (clause : Clause) × fact clause × IsInClause APair at_pair clause
  clause_among [] fact each one = absurd one
  clause_among (clause ∷ all) fact each one =
      elim (one_on_a_side IsIn (pair_box_of clause) (pair_boxes all) one) [
        | inl here ↦ (clause, each.0, clause_of_box clause here)
        | inr later ↦ clause_among all fact each.1 later
      ]

module _ (graph : Graph) (closed : ℕ → Mapping) (question : Question) (all : List Clause)
    (are : AreClauses graph question all) where
  abbrev of_graph : Thing → Answers
  of_graph = answers_of graph closed

  inside : (first second : Thing) → InQuestion of_graph (thing.Pair first second) question
      → InClauses of_graph (pair_boxes all) (first ∷ second ∷ [])
  inside first second asking =
      by_clause ((thing_exact graph closed question (thing.Pair first second)).0 asking)
    where
      by_clause : ((clause : Clause) × IsClauseOfQuestion graph question clause
          × IsInClause APair (reader_of graph closed (thing.Pair first second)) clause)
          → InClauses of_graph (pair_boxes all) (first ∷ second ∷ [])
      by_clause (clause, of, within) = box_among graph closed first second clause all
          (among_clauses APair refl (reader_of graph closed (thing.Pair first second)) graph question
          all are clause of within) within

  back : (first second : Thing) → InClauses of_graph (pair_boxes all) (first ∷ second ∷ [])
      → InQuestion of_graph (thing.Pair first second) question
  back first second one =
      let is = clause_among graph closed first second all (IsClauseOfQuestion graph question) are.0
      one
      in (thing_exact graph closed question (thing.Pair first second)).1 (is.0, is.1, is.2)

  pub are_pair_clauses : (Sort : Thing → Type 0)
      → ArePairClauses of_graph Sort question (pair_boxes all)
  are_pair_clauses Sort first second sort = (inside first second, back first second)

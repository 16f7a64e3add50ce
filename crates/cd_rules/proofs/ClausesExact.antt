-- A thing is in a question exactly when it is in one of its clauses.
use Rattle.std.proofs.Common.{ℕ, true, List, [], ◌∷◌, inl, inr, ◌↔◌}
use Rattle.cd_sets.specs.declared.question.Question.{Question}
use Rattle.cd_model.specs.AllOf.{AnyOf}
use Rattle.cd_model.specs.Formula.{Graph}
use Rattle.cd_model.specs.Kinds.{Kind, kind_of}
use Rattle.cd_model.specs.Membership.{Reader, Mapping, at_nodes, asked}
use Rattle.cd_model.specs.Thing.{Thing}
use Rattle.cd_rules.specs.Dnf.{Conjunct, Meets, dnf_of}
use Rattle.cd_rules.specs.Clauses.{Clause, IsClauseOf, IsClauseOfQuestion, IsInClause}
use Rattle.cd_rules.proofs.DnfExact.{question_exact}
use Rattle.cd_rules.proofs.ClauseBack.{clause_back}
use Rattle.cd_rules.proofs.ClauseOf.{IsOfKind, in_clause, kind_of_thing}
use Rattle.cd_rules.proofs.OtherKinds.{IsOutsideOtherKinds, thing_is_elsewhere}
use Rattle.cd_model.proofs.Ones.{one_weaker}
use Rattle.cd_rules.proofs.Things.{reader_of, answers_of}

module _ (kind : Kind) (reader : Reader) where
  -- a clause of one of some conjuncts, and the thing is in it
  abbrev InOneOf : List Conjunct → Type 0
  InOneOf conjuncts = (clause : Clause) × AnyOf (λ conjunct. IsClauseOf conjunct clause) conjuncts × IsInClause kind reader clause

  -- what meets one of some conjuncts is in a clause of one of them
  clause_of_one : IsOfKind kind reader → (conjuncts : List Conjunct) → AnyOf (Meets reader) conjuncts → InOneOf conjuncts
  clause_of_one of_kind [] one = elim one [ ]
  clause_of_one of_kind (conjunct ∷ conjuncts) (inl meets) =
      let is = in_clause kind reader of_kind conjunct meets in (is.0, inl is.1, is.2)
  clause_of_one of_kind (conjunct ∷ conjuncts) (inr later) =
      let is = clause_of_one of_kind conjuncts later in (is.0, inr is.1, is.2)

  -- and what is in such a clause meets the conjunct
  one_of_clause : IsOutsideOtherKinds kind reader → (conjuncts : List Conjunct) → InOneOf conjuncts → AnyOf (Meets reader) conjuncts
  one_of_clause elsewhere conjuncts is = one_weaker (λ conjunct. IsClauseOf conjunct is.0) (Meets reader)
      (λ conjunct of. clause_back kind reader elsewhere conjunct is.0 of is.2) conjuncts is.1

  -- a thing of one kind is in a question exactly when it is in one of the question's clauses
  pub clauses_exact : IsOfKind kind reader → IsOutsideOtherKinds kind reader → (graph : Graph) (question : Question)
      → asked (at_nodes graph reader) question true
      ↔ ((clause : Clause) × IsClauseOfQuestion graph question clause × IsInClause kind reader clause)
  clauses_exact of_kind elsewhere graph question = (
    λ asking. clause_of_one of_kind (dnf_of graph question) ((question_exact reader graph question).0 asking),
    λ is. (question_exact reader graph question).1 (one_of_clause elsewhere (dnf_of graph question) is),
  )

-- a thing is in a question exactly when it is in one of the question's clauses
pub thing_exact : (graph : Graph) (closed : ℕ → Mapping) (question : Question) (is : Thing)
    → asked (answers_of graph closed is) question true
    ↔ ((clause : Clause) × IsClauseOfQuestion graph question clause × IsInClause (kind_of is) (reader_of graph closed is) clause)
thing_exact graph closed question is = clauses_exact (kind_of is) (reader_of graph closed is)
    (kind_of_thing graph closed is) (thing_is_elsewhere graph closed is) graph question

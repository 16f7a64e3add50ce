-- Where no integer, no character and no atom is in a question, nothing is in its basic clauses:
-- these need what has no way, and are refuted.
use Rattle.std.proofs.Common.{true, List, [], ◌∷◌, inl, refl}
use Rattle.cd_sets.specs.declared.question.Question.{Question}
use Rattle.cd_model.specs.Thing as thing
use Rattle.cd_model.specs.Thing.{Thing, IsElement}
use Rattle.cd_model.specs.Formula.{Graph}
use Rattle.cd_model.specs.Kinds.{kind_of}
use Rattle.cd_model.specs.Membership.{asked, answers, reader}
use Rattle.cd_model.specs.Types.{no_closure}
use Rattle.cd_rules.specs.BasicSets.{IsBasic, HasNoBasic}
use Rattle.cd_rules.specs.Clauses.{Clause, Ints, Chars, Atoms, IsClauseOfQuestion, IsInClause}
use Rattle.cd_rules.specs.Family.{Refutes}
use Rattle.cd_rules.specs.Needs.{AreNeeds}
use Rattle.cd_rules.proofs.ClausesExact.{thing_exact}

module _ (graph : Graph) (question : Question) (none : HasNoBasic graph question) where
  in_question : (is : Clause) → IsClauseOfQuestion graph question is → (e : Thing) → IsInClause (kind_of e) (reader graph e) is
      → asked (answers graph e) question true
  in_question is of e inside = (thing_exact graph no_closure question e).1 (is, of, inside)

  pub nothing_needed : (is : Clause) → IsClauseOfQuestion graph question is → IsBasic is → AreNeeds is ([] ∷ [])
  nothing_needed (Ints wanted refused) of basic = inl (
    λ z is. none.0 z is.0 (in_question (Ints wanted refused) of (thing.Integer z) (refl, is.1, is.2)),
    refl,
  )
  nothing_needed (Chars wanted refused) of basic = inl (
    λ c is. none.1 c is.0 (in_question (Chars wanted refused) of (thing.Character c) (refl, is.1, is.2)),
    refl,
  )
  nothing_needed (Atoms wanted refused) of basic = inl (
    λ name is. none.2 name is.0 (in_question (Atoms wanted refused) of (thing.Atom name) (refl, is.1, is.2)),
    refl,
  )
  nothing_needed _ of basic = absurd basic

  -- each family refutes them
  pub basic_refutes : (family : List Question) (is : Clause) → IsClauseOfQuestion graph question is → IsBasic is → Refutes family is
  basic_refutes family (Ints wanted refused) of basic = ([] ∷ [], nothing_needed (Ints wanted refused) of basic, inl tt)
  basic_refutes family (Chars wanted refused) of basic = ([] ∷ [], nothing_needed (Chars wanted refused) of basic, inl tt)
  basic_refutes family (Atoms wanted refused) of basic = ([] ∷ [], nothing_needed (Atoms wanted refused) of basic, inl tt)
  basic_refutes family _ of basic = absurd basic

  -- an element of the question is in no basic clause
  pub in_no_basic : (is : Clause) → IsBasic is → (e : Thing) → IsElement e → asked (answers graph e) question true
      → IsInClause (kind_of e) (reader graph e) is → ⊥
  in_no_basic (Ints wanted refused) basic (thing.Integer z) element asking inside = none.0 z element asking
  in_no_basic (Ints wanted refused) basic _ element asking inside = absurd cc
  in_no_basic (Chars wanted refused) basic (thing.Character c) element asking inside = none.1 c element asking
  in_no_basic (Chars wanted refused) basic _ element asking inside = absurd cc
  in_no_basic (Atoms wanted refused) basic (thing.Atom name) element asking inside = none.2 name element asking
  in_no_basic (Atoms wanted refused) basic _ element asking inside = absurd cc
  in_no_basic _ basic e element asking inside = absurd basic

-- Where no integer, no character and no atom is in a question, the conjuncts of the other kinds
-- account for its clauses; and each clause that they may become is one of the question.
use Rattle.std.proofs.Common.{◌≡◌, Bool, true, false, List, [], ◌∷◌, inl, inr, sym, subst, ap}
use Rattle.cd_sets.specs.declared.question.Question.{Question}
use Rattle.cd_model.specs.AllOf.{AllOf, AnyOf}
use Rattle.cd_model.specs.Formula.{Graph}
use Rattle.cd_model.specs.Kinds.{Kind, APair, AnXml, ARecord, AFunction}
use Rattle.cd_rules.specs.BasicSets.{HasNoBasic}
use Rattle.cd_rules.specs.Dnf.{Conjunct}
use Rattle.cd_rules.specs.Clauses.{Clause, Pairs, Xmls, Records, Arrows, IsClauseOfQuestion, pair_of, xml_of, record_of, arrow_of, parts_in}
use Rattle.cd_rules.specs.Family.{Refutes}
use Rattle.cd_rules.specs.KindDnf.{kind_dnf_of}
use Rattle.cd_rules.specs.PartialConjuncts.{clause_by, partial, signed, EachClause, partial_conjuncts, IsPartialOf, AccountForClauses}
use Rattle.cd_rules.proofs.Among.{each_of_its}
use Rattle.cd_rules.proofs.BasicsWithoutMembers.{basic_refutes}
use Rattle.cd_rules.proofs.ClausesOfKind.{pairs_of_kind, xmls_of_kind, records_of_kind, arrows_of_kind}
use Rattle.cd_rules.proofs.Completions.{completions_of_question}
use Rattle.cd_model.proofs.Ones.{one_weaker}

-- a fact of each clause that a conjunct with nothing yet may become is one of each of the
-- question's conjuncts of the kind, and back
module _ (fact : Clause → Type 0) (kind : Kind) (graph : Graph) (question : Question) where
  of_question : EachClause fact (partial kind [] (signed graph question))
      → AllOf (λ conjunct. fact (clause_by kind conjunct)) (kind_dnf_of kind graph question)
  of_question = subst (AllOf (λ conjunct. fact (clause_by kind conjunct))) (completions_of_question kind graph question)

  to_question : AllOf (λ conjunct. fact (clause_by kind conjunct)) (kind_dnf_of kind graph question)
      → EachClause fact (partial kind [] (signed graph question))
  to_question = subst (AllOf (λ conjunct. fact (clause_by kind conjunct))) (sym (completions_of_question kind graph question))

-- the clause of one of some conjuncts
refuted_one : {X : Type 0} (clause_of : (wanted refused : List X) → Clause) (parts : Bool → Conjunct → List X) (family : List Question)
    (wanted refused : List X) (all : List Conjunct) → AllOf (λ conjunct. Refutes family (clause_of (parts true conjunct) (parts false conjunct))) all
    → AnyOf (λ conjunct. (wanted ≡ parts true conjunct) × (refused ≡ parts false conjunct)) all → Refutes family (clause_of wanted refused)
refuted_one clause_of parts family wanted refused [] each is = elim is [ ]
refuted_one clause_of parts family wanted refused (conjunct ∷ all) each (inl is) =
    subst (λ wanted. Refutes family (clause_of wanted refused)) (sym is.0)
    (subst (λ refused. Refutes family (clause_of (parts true conjunct) refused)) (sym is.1) each.0)
refuted_one clause_of parts family wanted refused (conjunct ∷ all) each (inr later) =
    refuted_one clause_of parts family wanted refused all each.1 later

pub accounts_for_clauses : (graph : Graph) (base : List Question) (question : Question) → HasNoBasic graph question
    → AccountForClauses graph base question (partial_conjuncts graph question)
accounts_for_clauses graph base question none family larger fail (Pairs wanted refused) of = refuted_one Pairs (parts_in pair_of) family wanted refused
    (kind_dnf_of APair graph question) (of_question (Refutes family) APair graph question fail.0)
    ((pairs_of_kind graph question wanted refused).0 of)
accounts_for_clauses graph base question none family larger fail (Xmls wanted refused) of = refuted_one Xmls (parts_in xml_of) family wanted refused
    (kind_dnf_of AnXml graph question) (of_question (Refutes family) AnXml graph question fail.1.0)
    ((xmls_of_kind graph question wanted refused).0 of)
accounts_for_clauses graph base question none family larger fail (Records wanted refused) of = refuted_one Records (parts_in record_of) family wanted refused
    (kind_dnf_of ARecord graph question) (of_question (Refutes family) ARecord graph question fail.1.1.0)
    ((records_of_kind graph question wanted refused).0 of)
accounts_for_clauses graph base question none family larger fail (Arrows wanted refused) of = refuted_one Arrows (parts_in arrow_of) family wanted refused
    (kind_dnf_of AFunction graph question) (of_question (Refutes family) AFunction graph question fail.1.1.1.0)
    ((arrows_of_kind graph question wanted refused).0 of)
accounts_for_clauses graph base question none family larger fail is of = basic_refutes graph question none family is of tt

-- each conjunct of such a kind is a clause of the question
each_of_kind : {X : Type 0} (kind : Kind) (clause_of : (wanted refused : List X) → Clause) (parts : Bool → Conjunct → List X) (graph : Graph)
    (question : Question) → ((wanted refused : List X)
    → AnyOf (λ conjunct. (wanted ≡ parts true conjunct) × (refused ≡ parts false conjunct)) (kind_dnf_of kind graph question)
    → IsClauseOfQuestion graph question (clause_of wanted refused))
    → AllOf (λ conjunct. IsClauseOfQuestion graph question (clause_of (parts true conjunct) (parts false conjunct))) (kind_dnf_of kind graph question)
each_of_kind kind clause_of parts graph question back = each_of_its
    (λ conjunct. IsClauseOfQuestion graph question (clause_of (parts true conjunct) (parts false conjunct))) (kind_dnf_of kind graph question)
    (λ conjunct there. back (parts true conjunct) (parts false conjunct) (one_weaker (λ other. other ≡ conjunct)
    (λ other. (parts true conjunct ≡ parts true other) × (parts false conjunct ≡ parts false other))
    (λ other same. (ap (parts true) (sym same), ap (parts false) (sym same))) (kind_dnf_of kind graph question) there))

pub partial_conjuncts_are : (graph : Graph) (question : Question) → AllOf (IsPartialOf graph question) (partial_conjuncts graph question)
partial_conjuncts_are graph question = (
  to_question (IsClauseOfQuestion graph question) APair graph question (each_of_kind APair Pairs (parts_in pair_of) graph question
      (λ wanted refused. (pairs_of_kind graph question wanted refused).1)),
  (
    to_question (IsClauseOfQuestion graph question) AnXml graph question (each_of_kind AnXml Xmls (parts_in xml_of) graph question
        (λ wanted refused. (xmls_of_kind graph question wanted refused).1)),
    (
      to_question (IsClauseOfQuestion graph question) ARecord graph question (each_of_kind ARecord Records (parts_in record_of) graph question
          (λ wanted refused. (records_of_kind graph question wanted refused).1)),
      (
        to_question (IsClauseOfQuestion graph question) AFunction graph question (each_of_kind AFunction Arrows (parts_in arrow_of) graph question
            (λ wanted refused. (arrows_of_kind graph question wanted refused).1)),
        tt,
      ),
    ),
  ),
)

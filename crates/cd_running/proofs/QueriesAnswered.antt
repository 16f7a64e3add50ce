-- What a verdict on two nodes answers to a query, and what the answers of the first queries are.
use Rattle.std.proofs.Common.{◌≡◌, ℕ, suc, ◌+◌, ◌≤◌, List, [], ◌∷◌, true, false, subst, arith}
use Rattle.cd_sets.specs.declared.node_id.NodeId.{NodeId}
use Rattle.cd_model.specs.Formula.{Graph}
use Rattle.cd_model.specs.Membership.{answers}
use Rattle.cd_model.specs.StandsFor.{StandsFor}
use Rattle.cd_model.specs.Thing.{Thing, IsElement}
use Rattle.cd_rules.specs.Needs.{question}
use Rattle.cd_elements.specs.Table.{element_at}
use Rattle.cd_elements.specs.declared.shape.ElementId.{ElementId}
use Rattle.cd_verdicts.specs.Verdicts.{IsExact}
use Rattle.cd_verdicts.specs.declared.verdict.Verdict.TheVariants.{Inhabited}
use Rattle.cd_running.specs.Queries.{Query, Answered, within, not_within}
use Rattle.cd_running.specs.Inner.Asking.{query_type, AnswersQuery}
use Rattle.cd_running.proofs.QueriesRead.{query_reads, wanted_reads}

module _ (graph : Graph) (asked wanted : NodeId) (number : ℕ) (asks : StandsFor graph asked (query_type number))
    (wants : StandsFor graph wanted (query_type 99)) where
  -- what is in the one node is in the other
  pub yes_answers : ((is : Thing) → IsElement is → answers graph is asked true → answers graph is wanted true)
      → AnswersQuery number true
  yes_answers all = λ e is inside.
      (wants.elements e true is).0 (all e is ((asks.elements e true is).1 inside))

  -- this element of the table is in the one alone
  pub no_answers : (table : List Thing) (id : ElementId)
      → IsExact graph table (question (asked ∷ []) (wanted ∷ [])) (Inhabited id) → AnswersQuery number false
  no_answers table id exact =
      let e = element_at table id in
      (e, exact.1, (asks.elements e true exact.1).0 exact.2.0.0, (wants.elements e false exact.1).0 exact.2.1.0)

abbrev query_of : (number : ℕ) → number ≤ 100000 → Query number
query_of number small = record {
  asked = query_type number;
  wanted = query_type 99;
  asked_reads = query_reads number small;
  wanted_reads = wanted_reads;
}

one_more : (n : ℕ) → suc n ≡ n + 1
one_more n = omega arith

-- one more query is answered
pub with_yes : (number answered : ℕ) → number ≤ 100000 → Answered number answered → AnswersQuery number true
    → Answered (number + 1) (answered + 1)
with_yes number answered small so is =
    subst (λ n. Answered n (answered + 1)) (one_more number)
    (subst (Answered (suc number)) (one_more answered) (within number answered so (query_of number small) is))

pub with_no : (number answered : ℕ) → number ≤ 100000 → Answered number answered → AnswersQuery number false
    → Answered (number + 1) answered
with_no number answered small so (e, is, inside, outside) =
    subst (λ n. Answered n answered) (one_more number)
    (not_within number answered so (query_of number small) e is inside outside)

-- A question has the same conjuncts in each longer graph, so a closed family stays closed.
use Rattle.std.proofs.Common.{◌≡◌, ◌<◌, Bool, true, false, List, [], ◌∷◌, ◌++◌, length, refl, sym, ap, subst}
use Rattle.std.proofs.Math.Path.{ap₂}
use Rattle.cd_sets.specs.declared.node_id.NodeId.{NodeId}
use Rattle.cd_sets.specs.declared.question.Question.{Question}
use Rattle.cd_model.specs.AllOf.{AllOf, AnyOf}
use Rattle.cd_model.specs.Formula.{Graph}
use Rattle.cd_rules.specs.Dnf.{dnf, joined, dnf_at, dnf_of}
use Rattle.cd_rules.specs.Clauses.{Clause, IsClauseOf, IsClauseOfQuestion}
use Rattle.cd_rules.specs.Family.{Refutes, IsClosed, AsksNodes}
use Rattle.cd_model.proofs.FormulasAmongMore.{formula_kept}

at_kept : (graph more : Graph) (ids : List NodeId) (wanted : Bool) → AllOf (λ id. id.0 < length graph) ids
    → dnf_at graph ids wanted ≡ dnf_at (graph ++ more) ids wanted
at_kept graph more [] wanted below = refl
at_kept graph more (id ∷ ids) wanted below = ap₂ joined
    (ap (λ is. dnf is wanted) (formula_kept graph more id.0 below.0)) (at_kept graph more ids wanted below.1)

pub conjuncts_kept : (graph more : Graph) (question : Question) → AsksNodes (length graph) question
    → dnf_of graph question ≡ dnf_of (graph ++ more) question
conjuncts_kept graph more question below =
    ap₂ joined (at_kept graph more question.pos true below.0) (at_kept graph more question.neg false below.1)

-- by recursion on a prefix of the family
each_stays : (graph more : Graph) (family questions : List Question) → AllOf (AsksNodes (length graph)) questions
    → AllOf (λ question. (clause : Clause) → IsClauseOfQuestion graph question clause → Refutes family clause) questions
    → AllOf (λ question. (clause : Clause) → IsClauseOfQuestion (graph ++ more) question clause → Refutes family clause) questions
each_stays graph more family [] below closed = tt
each_stays graph more family (question ∷ questions) below closed = (
  λ clause is. closed.0 clause (subst (AnyOf (λ conjunct. IsClauseOf conjunct clause)) (sym (conjuncts_kept graph more question below.0)) is),
  each_stays graph more family questions below.1 closed.1,
)

pub closed_stays : (graph more : Graph) (family : List Question) → AllOf (AsksNodes (length graph)) family → IsClosed graph family
    → IsClosed (graph ++ more) family
closed_stays graph more family below closed = each_stays graph more family family below closed

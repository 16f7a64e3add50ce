-- What is left of a node outside another one, as a formula; and formulas that are put into a graph.
use Rattle.std.proofs.Common.{◌≡◌, ◌+◌, ℕ, true, false, List, [], ◌∷◌, length, Some, None}
use Rattle.std.proofs.Common.{inl, inr, sym, subst, arith}
use Rattle.std.proofs.lemmas.Bool.{true≢false}
use Rattle.cd_sets.specs.declared.node_id.NodeId.{NodeId}
use Rattle.cd_model.proofs.BothWays.{through, turned}
use Rattle.cd_model.proofs.DecidedAtNodes.{in_or_outside}
use Rattle.cd_model.specs.AllOf.{AllOf}
use Rattle.cd_model.specs.Formula.{Graph, Formula, IsFormula, IsWithin, formula_at, in_node}
use Rattle.cd_model.specs.Membership.{answers, holds, reader}
use Rattle.cd_model.specs.Thing.{Thing}
use Rattle.cd_rules.specs.Needs.{question}
use Rattle.cd_rules.proofs.Asking.{asked_of_each}
use Rattle.cd_model.proofs.FormulasAmongMore.{each_among_more}
use Rattle.cd_products.specs.Keeping.{IsFormulaOfQuestion}
use Rattle.cd_verdicts.specs.Verdicts.{HasNoElement}
use Rattle.cd_sites.specs.Inner.Differences.{IsRest}
use Rattle.cd_sites.proofs.DifferencesMade.{both_asked}
use Rattle.cd_sites.proofs.RightTests.{one_answer}

-- formulas of a graph may be put after it
pub may_be_put : (count : ℕ) (all list : List Formula) → list ≡ all
    → AllOf (IsFormula count) all → AllOf (IsFormula (count + length list)) list
may_be_put count all list same each =
    subst (λ (formulas : List Formula). AllOf (IsFormula (count + length formulas)) formulas)
    (sym same) (each_among_more count (count + length all) (omega arith) all each)

module _ (old seen : Graph) (same : seen ≡ old) (one other : NodeId) where
  -- nothing is in both
  pub rest_is_all : (f : Formula) → f ≡ formula_at seen one → IsFormula (length seen) f
      → HasNoElement old (question (one ∷ other ∷ []) []) → IsRest old one other (Some f)
  rest_is_all f is sound disjoint = (
    subst (λ (g : Graph). IsFormula (length g) f) same sound,
    λ e element. (
      λ here. (
        inside e here,
        elim (in_or_outside old e other) [
          | inl there ↦ absurd (disjoint e element
              (asked_of_each (answers old e) (one ∷ other ∷ []) [] (inside e here, (there, tt)) tt))
          | inr out ↦ out
        ],
      ),
      λ both. subst (λ (g : Formula). holds (reader old e) g true) (sym in_old) both.0,
    ),
  )
    where
      in_old : f ≡ formula_at old one
      in_old = subst (λ (g : Graph). f ≡ formula_at g one) same is

      inside : (e : Thing) → holds (reader old e) f true → in_node old e one true
      inside e here = subst (λ (g : Formula). holds (reader old e) g true) in_old here

  -- all of the one is in the other
  pub rest_is_none : IsWithin seen one other → IsRest old one other None
  rest_is_none within e element here out = absurd (true≢false (one_answer old e other true false
      (subst (λ (g : Graph). IsWithin g one other) same within e element here) out))

-- the formula of the question is that of what is left
pub rest_of_question : (graph : Graph) (one other : NodeId) (f : Formula)
    → IsFormulaOfQuestion graph (question (one ∷ []) (other ∷ [])) f
    → IsRest graph one other (Some f)
rest_of_question graph one other f is = (
  is.sound,
  λ e element. through (turned (is.elements e element)) (both_asked graph one other e),
)

-- A longer graph has the same clauses of old questions, and the same right tests of their boxes.
use Rattle.std.proofs.Common.{◌<◌, Bool, true, false, List, [], ◌∷◌, ◌++◌, inl}
use Rattle.std.proofs.Common.{inr}
use Rattle.std.proofs.Common.{length, sym, subst}
use Rattle.cd_sets.specs.declared.question.Question.{Question}
use Rattle.cd_model.specs.AllOf.{AllOf, AnyOf}
use Rattle.cd_model.specs.Formula.{Graph, IsGraph}
use Rattle.cd_model.specs.Membership.{answers}
use Rattle.cd_model.proofs.Extending.{kept_elements}
use Rattle.cd_rules.specs.Dnf.{Conjunct, dnf}
use Rattle.cd_rules.specs.Clauses.{Clause, IsClauseOf}
use Rattle.cd_rules.specs.Family.{AsksNodes}
use Rattle.cd_rules.specs.Members.{HasElement}
use Rattle.cd_model.proofs.Ones.{each_of_two}
use Rattle.cd_products.specs.Inner.ClauseBoxes.{AreClauses}
use Rattle.cd_products.specs.Inner.Tests.{IsTested, IsTest}
use Rattle.cd_rules.proofs.ClosedStays.{conjuncts_kept}

-- all clauses by the conjuncts
abbrev AreAll : List Clause → List Conjunct → Type 0
AreAll all dnf = AllOf (λ is. AnyOf (λ conjunct. IsClauseOf conjunct is) dnf) all

pub clauses_kept : (graph more : Graph) (question : Question) → AsksNodes (length graph) question
    → (all : List Clause) → AreClauses graph question all → AreClauses (graph ++ more) question all
clauses_kept graph more question below all are = (
  subst (AreAll all) (conjuncts_kept graph more question below) are.0,
  λ is of. are.1 is (subst (AnyOf (λ conjunct. IsClauseOf conjunct is))
      (sym (conjuncts_kept graph more question below)) of),
)

module _ (graph more : Graph) (sound : IsGraph graph) where
  -- the same elements are in a question
  has_more : (question : Question) → AsksNodes (length graph) question → HasElement graph question
      → HasElement (graph ++ more) question
  has_more question asks (e, is, inside) = (
    e,
    is,
    (
      each_of_two (λ id. id.0 < length graph) (λ id. answers graph e id true)
          (λ id. answers (graph ++ more) e id true)
          (λ id below there. (kept_elements graph more sound e id true below).0 there)
          question.pos asks.0 inside.0,
      each_of_two (λ id. id.0 < length graph) (λ id. answers graph e id false)
          (λ id. answers (graph ++ more) e id false)
          (λ id below there. (kept_elements graph more sound e id false below).0 there)
          question.neg asks.1 inside.1,
    ),
  )

  has_less : (question : Question) → AsksNodes (length graph) question
      → HasElement (graph ++ more) question → HasElement graph question
  has_less question asks (e, is, inside) = (
    e,
    is,
    (
      each_of_two (λ id. id.0 < length graph) (λ id. answers (graph ++ more) e id true)
          (λ id. answers graph e id true)
          (λ id below there. (kept_elements graph more sound e id true below).1 there)
          question.pos asks.0 inside.0,
      each_of_two (λ id. id.0 < length graph) (λ id. answers (graph ++ more) e id false)
          (λ id. answers graph e id false)
          (λ id below there. (kept_elements graph more sound e id false below).1 there)
          question.neg asks.1 inside.1,
    ),
  )

  each_less : (box : List Question) → AllOf (AsksNodes (length graph)) box
      → AllOf (HasElement (graph ++ more)) box → AllOf (HasElement graph) box
  each_less [] asks each = tt
  each_less (question ∷ box) asks each =
      (has_less question asks.0 each.0, each_less box asks.1 each.1)

  one_less : (box : List Question) → AllOf (AsksNodes (length graph)) box
      → AnyOf (λ question. HasElement (graph ++ more) question → ⊥) box
      → AnyOf (λ question. HasElement graph question → ⊥) box
  one_less [] asks one = one
  one_less (question ∷ box) asks (inl none) = inl (λ has. none (has_more question asks.0 has))
  one_less (question ∷ box) asks (inr later) = inr (one_less box asks.1 later)

  tested_less : (box : List Question) → AllOf (AsksNodes (length graph)) box → (b : Bool)
      → IsTested (graph ++ more) box b → IsTested graph box b
  tested_less box asks true each = each_less box asks each
  tested_less box asks false one = one_less box asks one

  -- so a test that is right of the longer graph is right of this one
  pub test_of_longer : (test : List Question → Bool)
      → ((box : List Question) → IsTested (graph ++ more) box (test box)) → IsTest graph test
  test_of_longer test right box asks = tested_less box asks (test box) (right box)

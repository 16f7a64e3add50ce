-- The formula of a question holds what is asked in longer graphs too.
use Rattle.std.proofs.Common.{◌↔◌, ◌<◌, ◌++◌, ℕ, Bool, true, false, List, [], ◌∷◌, length}
use Rattle.cd_sets.specs.declared.node_id.NodeId.{NodeId}
use Rattle.cd_sets.specs.declared.question.Question.{Question}
use Rattle.cd_model.specs.AllOf.{AllOf}
use Rattle.cd_model.specs.Formula.{Graph, Formula, IsGraph, asked, at_formula, holds, nodes}
use Rattle.cd_model.specs.Interfaces.{Interfaces, admits}
use Rattle.cd_model.specs.Thing.{Thing, IsElement, IsValue}
use Rattle.cd_model.specs.Types.{Answers, Mapping, reader, answers, no_closure, closure_maps}
use Rattle.cd_model.proofs.BothWays.{itself, through, turned, both_agree}
use Rattle.cd_model.proofs.Extending.{kept_elements, kept_formulas, kept_values, kept_value_formulas}
use Rattle.cd_rules.specs.Family.{AsksNodes}
use Rattle.cd_products.specs.Keeping.{IsFormulaOfQuestion}

-- in the longer graph, where closures map so, formulas of questions hold of things of a sort what is
-- asked
abbrev pub HoldsQuestions : (graph longer : Graph) → (closed : ℕ → Mapping NodeId)
    → (Sort : Thing → Type 0) → Type 0
HoldsQuestions graph longer closed Sort = (question : Question) (f : Formula)
    → AsksNodes (length graph) question → IsFormulaOfQuestion graph question f → (d : Thing)
    → Sort d → holds (at_formula (reader (nodes longer) closed d)) f true
    ↔ asked (answers (nodes longer) closed d) question true

module _ (count : ℕ) (one other : Answers NodeId)
    (kept : (id : NodeId) (answer : Bool) → id.0 < count → one id answer ↔ other id answer) where
  each_kept : (ids : List NodeId) (answer : Bool) → AllOf (λ id. id.0 < count) ids
      → AllOf (λ id. one id answer) ids ↔ AllOf (λ id. other id answer) ids
  each_kept [] answer below = itself
  each_kept (id ∷ ids) answer below =
      both_agree (kept id answer below.0) (each_kept ids answer below.1)

  asked_kept : (question : Question) → AsksNodes count question
      → asked one question true ↔ asked other question true
  asked_kept question asks =
      both_agree (each_kept question.pos true asks.0) (each_kept question.neg false asks.1)

module _ (graph more : Graph) (sound : IsGraph graph) where
  pub of_elements : HoldsQuestions graph (graph ++ more) no_closure IsElement
  of_elements question f asks is d sort = through
      (turned (kept_formulas graph more sound d f true is.sound))
      (through (turned (is.elements d sort)) (asked_kept (length graph)
      (answers (nodes graph) no_closure d) (answers (nodes (graph ++ more)) no_closure d)
      (λ id answer below. kept_elements graph more sound d id answer below) question asks))

  pub of_values : (interfaces : Interfaces)
      → HoldsQuestions graph (graph ++ more)
      (closure_maps (nodes (graph ++ more)) (admits interfaces)) IsValue
  of_values interfaces question f asks is d sort =
      let closed = closure_maps (nodes graph) (admits interfaces) in
      let closing = closure_maps (nodes (graph ++ more)) (admits interfaces) in
      through (turned (kept_value_formulas graph more sound (admits interfaces) (admits interfaces)
      (λ function pairs element. itself) d f true is.sound))
      (through (turned (is.values interfaces d sort)) (asked_kept (length graph)
      (answers (nodes graph) closed d) (answers (nodes (graph ++ more)) closing d)
      (λ id answer below. kept_values graph more sound (admits interfaces) (admits interfaces)
      (λ function pairs element. itself) d id answer below) question asks))

-- What a verdict says of a question.
use Rattle.std.proofs.Common.{◌≡◌, true, List, subst}
use Rattle.cd_sets.specs.declared.question.Question.{Question}
use Rattle.cd_model.specs.Formula.{Graph, in_node, asked}
use Rattle.cd_model.specs.Thing.{Thing, IsElement}
use Rattle.cd_elements.specs.Table.{element_at}
use Rattle.cd_elements.specs.declared.shape.ElementId.{ElementId}
use Rattle.cd_verdicts.specs.Verdicts.{HasNoElement, IsExact}
use Rattle.cd_verdicts.specs.declared.verdict.Verdict.{Verdict}
use Rattle.cd_verdicts.specs.declared.verdict.Verdict.TheVariants.{Empty, Inhabited}

module _ (graph : Graph) (table : List Thing) (question : Question) (verdict : Verdict)
    (exact : IsExact graph table question verdict) where
  pub none_there : verdict ≡ Empty → HasNoElement graph question
  none_there is = (subst (IsExact graph table question) is exact).0

  pub one_there : (id : ElementId) → verdict ≡ Inhabited id
      → (e : Thing) × IsElement e × asked (in_node graph e) question true
  one_there id is =
      let found = subst (IsExact graph table question) is exact in
      (element_at table id, found.1, found.2)

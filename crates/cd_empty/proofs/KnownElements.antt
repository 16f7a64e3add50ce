-- Elements that are kept for questions are of the table, and in the questions.
use Rattle.std.proofs.Common.{List, [], ◌∷◌, map}
use Rattle.cd_sets.specs.declared.question.Question.{Question}
use Rattle.cd_model.specs.AllOf.{AllOf}
use Rattle.cd_model.specs.Formula.{Graph}
use Rattle.cd_model.specs.Membership.{answers}
use Rattle.cd_model.specs.Thing.{Thing}
use Rattle.cd_elements.specs.declared.shape.ElementId.{ElementId}
use Rattle.cd_elements.specs.Table.{Names, element_at}
use Rattle.cd_rules.specs.Machine.{IsWitness}
use Rattle.cd_rules.specs.InWay.{AreInWay}
use Rattle.cd_rules.proofs.Among.{of_each}
use Rattle.cd_empty.specs.declared.decider.Decider.{Decider}
use Rattle.cd_verdicts.specs.declared.verdict.Verdict.{Verdict}
use Rattle.cd_verdicts.specs.declared.verdict.Verdict.TheVariants.{Empty, Inhabited}
use Rattle.cd_empty.specs.Inner.Looking.{HaveElements}
use Rattle.cd_empty.specs.Kept.{IsSound, IsNamed, table, kept}
use Rattle.cd_verdicts.specs.Witnesses.{witnesses_in}
use Rattle.cd_verdicts.specs.Verdicts.{IsKept}

-- the element of a verdict is in the question
abbrev IsOfVerdict : Graph → List Thing → Question × Verdict → Type 0
IsOfVerdict graph table (question, Empty) = Unit {0}
IsOfVerdict graph table (question, Inhabited id) = IsWitness graph (question, element_at table id)

each_of_verdict : (graph : Graph) (table : List Thing) (kept : List (Question × Verdict))
    → AllOf (IsWitness graph) (witnesses_in table kept) → AllOf (IsOfVerdict graph table) kept
each_of_verdict graph table [] are = tt
each_of_verdict graph table ((question, Empty) ∷ kept) are = (tt, each_of_verdict graph table kept are)
each_of_verdict graph table ((question, Inhabited id) ∷ kept) are = (are.0, each_of_verdict graph table kept are.1)

module _ (graph : Graph) (decider : Decider) (sound : IsSound graph decider) where
  pub element_named : (question : Question) (id : ElementId) → IsKept (kept decider) question (Inhabited id) → Names (table decider) id
  element_named question id =
      of_each (λ one. IsNamed (table decider) one.1) (kept decider) (question, Inhabited id) sound.named

  pub element_within : (question : Question) (id : ElementId) → IsKept (kept decider) question (Inhabited id)
      → IsWitness graph (question, element_at (table decider) id)
  element_within question id = of_each (IsOfVerdict graph (table decider)) (kept decider) (question, Inhabited id)
      (each_of_verdict graph (table decider) (kept decider) sound.witnesses)

  pub elements_named : (ids : List ElementId) (questions : List Question) → HaveElements decider ids questions
      → AllOf (Names (table decider)) ids
  elements_named [] [] have = tt
  elements_named (id ∷ ids) (question ∷ questions) have =
      (element_named question id have.0, elements_named ids questions have.1)
  elements_named [] (question ∷ questions) have = absurd have
  elements_named (id ∷ ids) [] have = absurd have

  pub elements_in_way : (ids : List ElementId) (questions : List Question) → HaveElements decider ids questions
      → AreInWay (map (λ id. answers graph (element_at (table decider) id)) ids) questions
  elements_in_way [] [] have = tt
  elements_in_way (id ∷ ids) (question ∷ questions) have =
      ((element_within question id have.0).1, elements_in_way ids questions have.1)
  elements_in_way [] (question ∷ questions) have = absurd have
  elements_in_way (id ∷ ids) [] have = absurd have

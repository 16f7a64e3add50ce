-- What is known of questions that all have to have elements.
use Rattle.std.specs.Prelude.{◌≡◌, List, [], ◌∷◌, ◌++◌, Option, Some, None}
use Rattle.cd_sets.specs.declared.question.Question.{Question}
use Rattle.cd_model.specs.AllOf.{AnyOf}
use Rattle.cd_elements.specs.declared.shape.ElementId.{ElementId}
use Rattle.cd_rules.specs.Family.{IsSubsumed}
use Rattle.cd_empty.specs.declared.decider.Decider.{Decider}
use Rattle.cd_empty.specs.declared.parts.Parts.{Parts}
use Rattle.cd_empty.specs.declared.parts.Parts.TheVariants.{Missing, Unknown, Are}
use Rattle.cd_verdicts.specs.declared.verdict.Verdict.TheVariants.{Inhabited}
use Rattle.cd_empty.specs.Inner.PlainFrame.{known}
use Rattle.cd_empty.specs.Inner.Doing.{IsUnknown}
use Rattle.cd_empty.specs.Kept.{kept}
use Rattle.cd_verdicts.specs.Verdicts.{IsKept}

-- these elements are kept for the questions, in their order
abbrev pub HaveElements : Decider → List ElementId → List Question → Type 0
HaveElements decider [] [] = Unit {0}
HaveElements decider (id ∷ ids) (question ∷ questions) =
    IsKept (kept decider) question (Inhabited id) × HaveElements decider ids questions
HaveElements decider _ _ = ⊥

abbrev pub AreParts : Decider → List Question → Parts → Type 0
AreParts decider questions Missing =
    AnyOf (λ question. IsSubsumed question (known decider)) questions
AreParts decider questions (Unknown question) =
    AnyOf (λ other. other ≡ question) questions × IsUnknown decider question
AreParts decider questions (Are ids) = HaveElements decider ids.items questions

-- the element of one more question is added; or it has none, or nothing is known of it
abbrev pub AddsPart : Decider → Question → (before after : List ElementId) → Option Parts → Type 0
AddsPart decider question before after None = (id : ElementId)
    × (after ≡ before ++ id ∷ []) × IsKept (kept decider) question (Inhabited id)
AddsPart decider question before after (Some Missing) = IsSubsumed question (known decider)
AddsPart decider question before after (Some (Unknown other)) = (question ≡ other)
    × IsUnknown decider other
AddsPart decider question before after (Some (Are ids)) = ⊥

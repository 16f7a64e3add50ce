-- What is known of a question, by verdicts and by the questions that are assumed to have no element.
use Rattle.std.specs.Prelude.{List, ◌++◌, map}
use Rattle.cd_sets.specs.declared.question.Question.{Question}
use Rattle.cd_rules.specs.Family.{IsSubsumed}
use Rattle.cd_rules.specs.Machine.{NotIn}
use Rattle.cd_verdicts.specs.declared.look.Look.{Look}
use Rattle.cd_verdicts.specs.declared.look.Look.TheVariants as look
use Rattle.cd_verdicts.specs.declared.verdict.Verdict.{Verdict}
use Rattle.cd_verdicts.specs.declared.verdict.Verdict.TheVariants.{Inhabited}
use Rattle.cd_verdicts.specs.Verdicts.{IsKept, family}

module _ (verdicts : List (Question × Verdict)) (assumed : List Question) (question : Question) where
  -- it has no verdict and is not assumed
  abbrev pub IsNew : Type 0
  IsNew = NotIn (map (λ one. one.0) verdicts) question × NotIn assumed question

  abbrev pub IsSeen : Look → Type 0
  IsSeen look.Empty = IsSubsumed question (family verdicts ++ assumed)
  IsSeen (look.Has id) = IsKept verdicts question (Inhabited id)
  IsSeen look.Unknown = IsNew

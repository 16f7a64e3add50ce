-- What is done for the question of a frame.
use Rattle.std.specs.Prelude.{◌≡◌, length}
use Rattle.cd_sets.specs.declared.question.Question.{Question}
use Rattle.cd_model.specs.Formula.{Graph}
use Rattle.cd_elements.specs.Table.{Names, element_at}
use Rattle.cd_rules.specs.Machine.{Works, IsDone, IsWitness}
use Rattle.cd_rules.specs.Family.{AsksNodes}
use Rattle.cd_empty.specs.declared.decider.Decider.{Decider}
use Rattle.cd_empty.specs.declared.frame.Frame.{Frame}
use Rattle.cd_empty.specs.declared.doing.Doing.{Doing}
use Rattle.cd_empty.specs.declared.doing.Doing.TheVariants.{Worked, Nothing, Wants, Found}
use Rattle.cd_empty.specs.Inner.Fit.{IsFit}
use Rattle.cd_empty.specs.Inner.PlainFrame.{plain_work, known}
use Rattle.cd_empty.specs.Kept.{table, kept}
use Rattle.cd_verdicts.specs.Looking.{IsNew}

-- nothing is known of a question
abbrev pub IsUnknown : Decider → Question → Type 0
IsUnknown decider question = IsNew (kept decider) decider.list question

module _ (graph : Graph) (decider : Decider) (before after : Frame) where
  -- the frame is as it was, and fits
  abbrev pub StaysFit : Type 0
  StaysFit = (plain_work after ≡ plain_work before) × IsFit graph (table decider) after

  -- what is so of the decider and of the frame afterwards
  abbrev pub IsDoing : Doing → Type 0
  IsDoing Worked = Works (known decider) (plain_work before) (plain_work after)
      × IsFit graph (table decider) after
  IsDoing Nothing = StaysFit × IsDone (plain_work after)
  IsDoing (Wants question) = StaysFit × IsUnknown decider question
      × AsksNodes (length graph) question
  IsDoing (Found id) = Names (table decider) id
      × IsWitness graph (before.question, element_at (table decider) id)

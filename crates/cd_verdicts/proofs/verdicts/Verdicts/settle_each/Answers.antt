use Rattle.std.proofs.Common.{Some, sym, ap, ◌∙◌, arith}
use Rattle.cd_verdicts.proofs.QuestionsDiffer.{past_the_end}
use Rattle.cd_verdicts.proofs.SettledLists.{next_settled, next_unsettled}
use Rattle.cd_verdicts.proofs.verdicts.Verdicts.settle_each.Goals as goal
use Rattle.cd_verdicts.proofs.verdicts.Verdicts.settle_each.Goals.{in-Some+in_ok-copy+in_ok-add_empty, in_default}

-- the next question has no verdict
pub add_empty-requires : goal.add_empty-requires
add_empty-requires c = next_unsettled c.args.self.now c.loop-place.self c.args.questions.now c.loop-place.place c.in_ok-copy.field-0
    c.requires c.loop-place.invariant (sym c.in-Some.ensures ∙ ap Some (sym c.in_ok-copy.ensures))

-- and there is one, since the list is not at its end
pub loop-place-preserved : goal.loop-place-preserved
loop-place-preserved c = elim c.match-get.branch [
  | in-Some+in_ok-copy+in_ok-add_empty w ↦ w.self-is ∙ next_settled c.args.self.now c.loop-place.self w.add_empty.new.self c.args.questions.now
      c.loop-place.place w.in_ok-copy.field-0 c.loop-place.invariant (sym w.in-Some.ensures ∙ ap Some (sym w.in_ok-copy.ensures))
      w.in_ok-add_empty.ensures.added
  | in_default w ↦
      absurd (omega (arith, past_the_end c.args.questions.now c.loop-place.place (sym w.in_default.ensures), c.len-place-end.ensures.count))
]

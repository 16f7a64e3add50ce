use Rattle.std.proofs.Common.{◌∙◌, ap, sym, map, arith}
use Rattle.std.proofs.lemmas.Grind.{common_steps}
use Rattle.std.proofs.lemmas.List.{map-append}
use Rattle.cd_variables.proofs.NamesAmong.{entered_new, entered_old}
use Rattle.cd_variables.proofs.name_set.collect.Goals as goal
use Rattle.cd_variables.proofs.name_set.collect.Goals.{then-not-again+in_ok-push, else-not-again}

-- the names stay the same, whether the next one is new or not
pub loop-variable-preserved : goal.loop-variable-preserved
loop-variable-preserved c = (
  grind (arith, common_steps),
  elim c.if-not-again.branch [
    | then-not-again+in_ok-push w ↦ entered_new (map (λ name. name.now) c.loop-variable.distinct.items) _
        c.loop-variable.index _ c.variable-item.result.name.now
        (ap (λ distinct. map (λ name. name.now) distinct.items) w.distinct-is
        ∙ ap (map (λ name. name.now)) w.in_ok-push.ensures.items
        ∙ map-append (λ name. name.now) c.loop-variable.distinct.items _)
        c.in_ok-again.ensures.added c.loop-variable.invariant.1
    | else-not-again w ↦ entered_old (map (λ name. name.now) c.loop-variable.distinct.items) _
        c.loop-variable.index _ c.variable-item.result.name.now
        (ap (λ distinct. map (λ name. name.now) distinct.items) w.distinct-is)
        c.in_ok-again.ensures.added (sym c.in_ok-again.ensures.again ∙ w.if-not-again.false) c.loop-variable.invariant.1
  ],
)

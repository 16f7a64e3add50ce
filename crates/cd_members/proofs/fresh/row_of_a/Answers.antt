use Rattle.std.proofs.Common.{◌∙◌, sym, ap, add-one, [], ◌∷◌, ◌++◌}
use Rattle.cd_rules.proofs.FreshLabels.{row_of_a}
use Rattle.cd_members.proofs.FieldsOnce.{row_more}
use Rattle.cd_members.proofs.fresh.row_of_a.Goals as goal

-- one letter more
pub loop-preserved : goal.loop-preserved
loop-preserved c = c.in_ok-push-2.ensures.items ∙ ap (λ row. row ++ 97 ∷ []) c.loop.invariant ∙ row_more c.loop.counter
    ∙ ap row_of_a (sym (add-one c.loop.counter))

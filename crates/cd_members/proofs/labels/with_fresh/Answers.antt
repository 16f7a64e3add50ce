use Rattle.std.proofs.Common.{◌≡◌, ◌∙◌, sym, ap, suc, ◌+◌, [], ◌∷◌, ◌++◌, drop, arith}
use Rattle.cd_rules.proofs.FreshLabels.{row_of_a}
use Rattle.cd_members.specs.Inner.RecordFields.{labels, fresh_fields}
use Rattle.cd_members.proofs.FieldsOnce.{row_more, fresh_step}
use Rattle.cd_members.proofs.labels.with_fresh.Goals as goal

-- one more is listed, and the next one has one letter more
pub loop-question-preserved : goal.loop-question-preserved
loop-question-preserved c =
    let at = c.loop-question in
    let least = c.args.least in
    let index = at._question-index in
    let some = c.args.some.now in
    let name = c.in_ok-of_characters.ensures ∙ c.as_slice.ensures.value ∙ at.invariant.0 in
    let next : suc (least + index) ≡ least + (index + 1) = omega arith in (
      c.in_ok-push-2.ensures.items ∙ ap (λ row. row ++ 97 ∷ []) at.invariant.0 ∙ row_more (least + index) ∙ ap row_of_a next,
      ap (λ all. all ++ labels (fresh_fields (least + (index + 1)) (drop (index + 1) some)))
          (c.in_ok-push.ensures.items ∙ ap (λ name. at.all.items ++ name ∷ []) name)
          ∙ sym (fresh_step at.all.items least index some c.loop-question-test.true) ∙ at.invariant.1,
    )

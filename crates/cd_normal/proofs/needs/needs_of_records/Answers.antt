use Rattle.std.proofs.lemmas.Result.{IfOk-weaker}
use Rattle.cd_normal.proofs.needs.needs_of_records.Goals as goal

-- those of the wanted types are those of the conjunct
pub returns : goal.returns
returns c = IfOk-weaker c.field_needs.result _ _
    (λ needs are. rw (c.as_slice.ensures.value, c.in_ok-wanted.ensures) at are)
    c.field_needs.ensures

use Rattle.std.proofs.Common.{sym, ◌∙◌, arith}
use Rattle.cd_kernel.proofs.BeforeOthers.{choice_of_some}
use Rattle.cd_kernel.proofs.complete.choice.Goals as goal

pub returns-in-len1-up : goal.returns-in-len1-up
returns-in-len1-up c =
    c.alt.ensures
    ∙ sym (choice_of_some c.args.all.items
    (omega (arith, c.in-len1-up.len_at_least, c.as_slice.ensures.len)))

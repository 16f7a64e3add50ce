use Rattle.std.proofs.lemmas.Result.{IfOk-weaker}
use Rattle.cd_normal.proofs.NeedsOfConjuncts.{arguments_are}
use Rattle.cd_normal.proofs.needs.needs_of_arrows.Goals as goal

-- each of them is the question of an argument
pub returns : goal.returns
returns c = IfOk-weaker c.argument_needs.result _ _
    (λ needs are. rw (c.as_slice.ensures.value, c.in_ok-refused.ensures) at (arguments_are c.as_slice.result.now needs.items are))
    c.argument_needs.ensures

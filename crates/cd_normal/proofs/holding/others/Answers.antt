use Rattle.std.proofs.Common.{true}
use Rattle.std.proofs.lemmas.Result.{IfOk-weaker}
use Rattle.cd_normal.proofs.holding.others.Goals as goal

pub returns : goal.returns
returns c = IfOk-weaker c.minus.result _ _ (λ sets of passing here. of (λ test. true) passing c.in_ok-all.ensures here) c.minus.ensures
